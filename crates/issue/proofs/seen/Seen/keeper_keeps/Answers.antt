use Rattle.std.proofs.Common.{◌≡◌, ◌∙◌, true, sym, subst}
use Rattle.std.specs.List.{list_any}
use Rattle.lsq.specs.Pending.{lacks_data_for}
use Rattle.lsq.proofs.Older.{lacks_where_kept}
use Rattle.issue.specs.Pending.{older_here}
use Rattle.issue.proofs.seen.Seen.keeper_keeps.Goals as goal

pub returns : goal.returns
returns c k =
    let s = c.args.self.now in
    let p = c.args.candidate.now in
    subst (λ bytes. list_any (lacks_data_for bytes) (older_here s p) ≡ true) c.request_at-request.ensures.bytes
    (lacks_where_kept p.entry.now.serial _ _ s.lsq.now.stores _ (sym c.in-Some-store.ensures) (sym c.keeps.ensures ∙ k))
