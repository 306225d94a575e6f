-- How many entries each phase leaves, and of how many there are marks.
use Rattle.std.proofs.Common.{◌≡◌, ℕ, suc, ◌-◌, ◌≤◌, List, [], ◌∷◌, ◌++◌, length, take, replicate, refl, ap, ◌∙◌, subst, arith}
use Rattle.std.specs.Prelude.{reverse}
use Rattle.std.proofs.lemmas.List.{length-append, length-map, length-replicate, length-take-le}
use Rattle.machine_desc.specs.declared.Desc.{Desc}
use Rattle.window_model.specs.declared.Entry.{Entry}
use Rattle.window_model.specs.Around.{around}
use Rattle.window_model.specs.Clear.{clear, cleared_one}
use Rattle.window_model.specs.Fill.{complete, after_completion}
use Rattle.window_model.specs.Issue.{issue, issue_entry}
use Rattle.window_model.specs.Order.{each_from}
use Rattle.window_model.specs.Rename.{rename, entry_of_item}
use Rattle.window_model.specs.Resolve.{resolve}
use Rattle.window_model.specs.State.{Machine}
use Rattle.window_model.proofs.Clearing.{clear_keep}
use Rattle.window_model.proofs.Placing.{place_keep}
use Rattle.window_model.proofs.Resolving.{resolved_one}
use Rattle.window_model.proofs.Walks.{rename_keep}
use Rattle.secret_marks.specs.declared.EntryMarks.{EntryMarks}
use Rattle.secret_marks.specs.Marks.{new_entry}

-- ---- how many entries are left

pub complete_keeps : (x : Machine) → length (complete x).machine.window ≡ length x.window
complete_keeps x = length-map x.window (after_completion x.cycle)

front_shorter : (n : ℕ) (front back : List Entry) → length (front ++ back) ≤ n → length front ≤ n
front_shorter n front back h = let l = length-append front back in omega (arith, l, h)

in_place : (n : ℕ) (b : List Entry) (e e2 : Entry) (ys : List Entry) → length (b ++ e ∷ ys) ≤ n → length (b ++ e2 ∷ ys) ≤ n
in_place n b e e2 ys h =
    let l = length-append b (e ∷ ys) in
    let l2 = length-append b (e2 ∷ ys) in
    omega (arith, l, l2, h)

pub resolve_shortens : (d : Desc) (x : Machine) → length (resolve d x).machine.window ≤ length x.window
resolve_shortens d x =
    place_keep d (λ w. length w ≤ length x.window) (front_shorter (length x.window)) (λ b e ys may h. in_place (length x.window) (reverse b) e (resolved_one e) ys h) x (omega arith)

pub clear_shortens : (d : Desc) (x : Machine) → length (clear d x).machine.window ≤ length x.window
clear_shortens d x =
    clear_keep d (λ y. length y.window ≤ length x.window)
    (λ y p c h. in_place (length x.window) (reverse p.before) p.entry (cleared_one p.entry) p.younger (subst (λ w. length w ≤ length x.window) c.window h))
    (λ y p q c v h.
    let all = ap length c.window in
    let more = ap length v.younger in
    let l = length-append (reverse p.before) (p.entry ∷ p.younger) in
    let l2 = length-append (reverse q.before) (q.entry ∷ q.younger) in
    let l3 = length-append (reverse p.before) (cleared_one p.entry ∷ reverse q.before) in
    omega (arith, h, all, more, l, l2, l3))
    x (omega arith)

each_length : {A : Type 0} (f : List Entry → Entry → A) (b es : List Entry) → length (each_from f b es) ≡ length es
each_length f b [] = refl
each_length f b (e ∷ es) = ap suc (each_length f (e ∷ b) es)

pub issue_keeps : (d : Desc) (x : Machine) → length (issue d x).machine.window ≡ length x.window
issue_keeps d x = length-map (each_from (issue_entry d (around x)) [] x.window) (λ b. b.entry) ∙ each_length (issue_entry d (around x)) [] x.window

pub rename_lengthens : (d : Desc) (x : Machine) → length x.window ≤ length (rename d x).machine.window
rename_lengthens d x =
    rename_keep d (λ y. length x.window ≤ length y.window)
    (λ y i rest q f h. let l = length-append y.window (entry_of_item d y.next_serial i ∷ []) in omega (arith, l, h)) x (omega arith)

-- ---- how many marks are left

pub cut_length : (n : ℕ) (ms : List EntryMarks) → n ≤ length ms → length (take n ms) ≡ n
cut_length n ms h = length-take-le n ms h

pub extended_length : (n : ℕ) (ms : List EntryMarks) → length ms ≤ n → length (ms ++ replicate (n - length ms) new_entry) ≡ n
extended_length n ms h =
    let l = length-append ms (replicate (n - length ms) new_entry) in
    let l2 = length-replicate (n - length ms) new_entry in
    omega (arith, l, l2, h)
