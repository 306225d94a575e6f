-- An entry that is kept whatever its operands are lacks what it asks for besides.
use Rattle.std.proofs.Common.{◌≡◌, Bool, true, false, not, ◌&&◌, ◌||◌, List, refl, ap, sym, ◌∙◌}
use Rattle.std.specs.Prelude.{◌==◌, if◌then◌else◌}
use Rattle.std.specs.List.{list_all, list_any}
use Rattle.std.proofs.Math.Bool.{and-false}
use Rattle.rv_types.specs.Memory.{load_fault}
use Rattle.rv_types.specs.declared.Kind.{Kind}
use Rattle.rv_types.specs.declared.Kind.TheVariants.{Div, Load}
use Rattle.machine_desc.specs.declared.Desc.{Desc}
use Rattle.window_model.specs.declared.Entry.{Entry}
use Rattle.window_model.specs.Around.{Around, is_free}
use Rattle.window_model.specs.Delay.{may_show}
use Rattle.window_model.specs.MayIssue.{address_of, goes_behind, may_issue, may_issue_as}
use Rattle.window_model.specs.Order.{is_waiting}
use Rattle.window_model.specs.Ready.{ready}
use Rattle.window_model.specs.Taint.{address_tainted, any_tainted}
use Rattle.window_model.specs.Retire.{byte_count}
use Rattle.lsq.specs.Pending.{lacks_address}
use Rattle.lsq.specs.Queues.{is_known}
use Rattle.issue.specs.declared.candidate.Candidate.{Candidate}
use Rattle.issue.specs.declared.seen.Seen.{Seen}
use Rattle.issue.specs.Pending.{is_kept, kept_as, older_here, passes_here, pending_here, stores_keep}
use Rattle.issue.specs.Ports.{besides}
use Rattle.issue.specs.State.{HasTurn, around_of, before_of, here}
use Rattle.issue.specs.Telling.{asks_besides}
use Rattle.issue.proofs.Behind.{goes_is, goes_not}
use Rattle.issue.proofs.Bytes.{let_is}

not_false : (b : Bool) → not b ≡ true → b ≡ false
not_false true h = absurd (cc)
not_false false h = refl

not_true : (b : Bool) → not b ≡ false → b ≡ true
not_true true h = refl
not_true false h = absurd (cc)

-- a load that passes no store isn't let go by one whose address isn't known
refused : (passes lacks meets visible : Bool) → (not passes && lacks) ≡ true → ((passes || not lacks) && not meets && visible) ≡ false
refused true lacks meets visible h = absurd (cc)
refused false true meets visible h = refl
refused false false meets visible h = absurd (cc)

-- nor is a load that meets a store without data
pub meets_none : (known lacks visible : Bool) → lacks ≡ true → (known && not lacks && visible) ≡ false
meets_none true true visible h = refl
meets_none true false visible h = absurd (cc)
meets_none false lacks visible h = refl

module _ (s : Seen) (p : Candidate) where
  -- in version 1 older stores that don't keep a load are all known
  pub all_known_in_one : (s.desc.now.version == 1) ≡ true → stores_keep s p ≡ false → list_all is_known (older_here s p) ≡ true
  all_known_in_one v k =
      not_true (list_all is_known (older_here s p))
      (sym (ap (λ v. if v then not (list_all is_known (older_here s p)) else not (passes_here s p) && list_any lacks_address (older_here s p)) v) ∙ k)

  module _ (t : HasTurn s p) where
    stores_refuse : (v : Bool) → (s.desc.now.version == 1) ≡ v →
        (if v then not (list_all is_known (older_here s p)) else not (passes_here s p) && list_any lacks_address (older_here s p)) ≡ true → here goes_behind s p ≡ false
    stores_refuse true v k = goes_not s p.position p.entry.now t.stands t.candidate.at v (not_false (list_all is_known (older_here s p)) k)
    stores_refuse false v k =
        let e = p.entry.now in
        let a = address_of s.regs.now (before_of s p) e in
        goes_is s p.position e t.stands t.candidate.at
        ∙ let_is s p.position e t.stands t.candidate.at (passes_here s p) (load_fault s.ram.now a (byte_count e)) a (byte_count e)
        ∙ refused (passes_here s p) (list_any lacks_address (older_here s p)) _ _ k

    -- a load that meets an older store without data isn't let go, in either version
    pub refused_by_data : (pending_here s p).overlap ≡ true → here goes_behind s p ≡ false
    refused_by_data k =
        let e = p.entry.now in
        let a = address_of s.regs.now (before_of s p) e in
        goes_is s p.position e t.stands t.candidate.at
        ∙ let_is s p.position e t.stands t.candidate.at (passes_here s p) (load_fault s.ram.now a (byte_count e)) a (byte_count e)
        ∙ meets_none _ _ _ k

    lacks_besides : (k : Kind) → kept_as k s p ≡ true → asks_besides k s.desc.now (around_of s) (before_of s p) p.entry.now ≡ false
    lacks_besides Load k = stores_refuse (s.desc.now.version == 1) refl k
    lacks_besides Div k = not_false (is_free (around_of s)) k
    lacks_besides _ k = absurd (cc)

    -- what an entry asks for besides is there only where it isn't kept
    pub unless_kept : besides s p ≡ (not (is_kept s p) && besides s p)
    unless_kept = by_kept (is_kept s p) refl
      where
        by_kept : (k : Bool) → is_kept s p ≡ k → besides s p ≡ (not k && besides s p)
        by_kept true k = lacks_besides p.entry.now.item.kind k
        by_kept false k = refl

-- ---- an entry that lacks what it asks for besides may not issue

issue_lacks : (d : Desc) (now : Around) (before : List Entry) (e : Entry) (k : Kind) → asks_besides k d now before e ≡ false → may_issue_as k d now before e ≡ false
issue_lacks d now before e Load h =
    let clean = not (address_tainted d.stt_model before e) && may_show d before in ap (λ b. clean && b) h ∙ and-false clean
issue_lacks d now before e Div h =
    let clean = not (any_tainted d.stt_model before e) && may_show d before in ap (λ b. clean && b) h ∙ and-false clean
issue_lacks d now before e _ h = h

pub may_not : (s : Seen) (p : Candidate) → besides s p ≡ false → may_issue s.desc.now (around_of s) (before_of s p) p.entry.now ≡ false
may_not s p h =
    let e = p.entry.now in
    let asks = is_waiting e.state && ready s.desc.now (before_of s p) e in
    ap (λ b. asks && b) (issue_lacks s.desc.now (around_of s) (before_of s p) e e.item.kind h) ∙ and-false asks
