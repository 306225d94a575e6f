-- What a core lends between two cycles, as it is looked at.
use Rattle.std.proofs.Common.{◌≡◌, false, List, [], None, ap, sym, subst}
use Rattle.machine_desc.specs.declared.Desc.{Desc}
use Rattle.window_model.specs.declared.Entry.{Entry}
use Rattle.window_model.specs.Taint.{protects}
use Rattle.slot_reasons.specs.Kept.{is_asked, kept_there, oldest_kept}
use Rattle.kept_entry.specs.declared.seen.Seen.{Seen}
use Rattle.kept_entry.specs.State.{Stands, StandsFor, window_of}
use Rattle.kept_entry.proofs.Letting.{visible_all, visible_passed}
use Rattle.kept_entry.proofs.Walking.{none_first}

-- under a model that doesn't protect no entry is kept
pub none_kept : (d : Desc) (window : List Entry) → protects d.stt_model ≡ false → None ≡ oldest_kept d window
none_kept d window o = ap (kept_there d) (sym (none_first (is_asked d) [] window (λ before e. visible_passed d before e (visible_all d.stt_model before o))))

-- what is told of the core's window under its description is told of what is looked at
pub stands_by : (s : Seen) (d : Desc) (window : List Entry) → s.desc.now ≡ d → window_of s ≡ window → StandsFor d window s → Stands s
stands_by s d window q e t = subst (λ d. StandsFor d (window_of s) s) (sym q) (subst (λ window. StandsFor d window s) (sym e) t)
