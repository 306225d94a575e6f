-- Rename and Fetch look at nothing that is hidden.
use Rattle.std.proofs.Common.{◌≡◌, List, [], ◌∷◌, ◌++◌, map, refl, ap, sym, ◌∙◌}
use Rattle.std.proofs.lemmas.List.{map-append}
use Rattle.rv_types.specs.Memory.{Code}
use Rattle.machine_desc.specs.declared.Desc.{Desc}
use Rattle.window_model.specs.declared.Entry.{Entry}
use Rattle.window_model.specs.State.{Machine, After}
use Rattle.window_model.specs.Rename.{rename}
use Rattle.window_model.specs.Fetch.{fetch}
use Rattle.two_runs.specs.Seen.{after_data}
use Rattle.two_runs.proofs.RenameFetch.{fetch_alike, rename_alike}
use Rattle.noninterference.specs.Alike.{without_outcome, part_that_shows, shown_after}
use Rattle.noninterference.specs.Laws.{RenameTellsNothing, FetchTellsNothing}

-- entries without outcomes are left as they are
hidden_once : (es : List Entry) → map without_outcome es ≡ map without_outcome (map without_outcome es)
hidden_once [] = refl
hidden_once (e ∷ es) = ap (λ t. without_outcome e ∷ t) (hidden_once es)

-- Rename does to what shows what it does to the whole
rename_shown : (d : Desc) (x : Machine) → shown_after (rename d x) ≡ rename d (part_that_shows x)
rename_shown d x =
    let blank = (part_that_shows x).ram in
    let after = rename d x in
    let kept = (rename_alike d x.regs x.ram x.window x refl).same in
    let r = rename_alike d x.regs blank (map without_outcome x.window) x (hidden_once x.window) in
    ap (λ (a : After). after_data a.machine.regs (record a.machine.ram { bytes = [] }) (map without_outcome after.machine.window) after) kept
    ∙ ap (λ w. after_data x.regs blank (map without_outcome w) after) r.window
    ∙ ap (λ w. after_data x.regs blank w after) (map-append without_outcome x.window r.new ∙ ap (λ t. map without_outcome x.window ++ t) r.plain)
    ∙ sym r.same

-- Rename tells nothing of two machines that show the same
pub rename_tells_nothing : RenameTellsNothing
rename_tells_nothing d x x2 r = rename_shown d x ∙ ap (rename d) r ∙ sym (rename_shown d x2)

-- Fetch does to what shows what it does to the whole
fetch_shown : (d : Desc) (code : Code) (x : Machine) → shown_after (fetch d code x) ≡ fetch d code (part_that_shows x)
fetch_shown d code x =
    ap shown_after (fetch_alike d code x.regs x.ram x.window x) ∙ sym (fetch_alike d code x.regs (part_that_shows x).ram (map without_outcome x.window) x)

-- Fetch tells nothing of two machines that show the same
pub fetch_tells_nothing : FetchTellsNothing
fetch_tells_nothing d code x x2 r = fetch_shown d code x ∙ ap (fetch d code) r ∙ sym (fetch_shown d code x2)
