-- What two runs see alike when they look back over entries of which outcomes may be hidden.
use Rattle.std.proofs.Common.{◌≡◌, ℕ, Bool, true, false, not, ◌&&◌, ◌||◌, List, [], ◌∷◌, map, refl, ap, ap₂, sym, ◌∙◌}
use Rattle.std.specs.Prelude.{if◌then◌else◌, is_some}
use Rattle.std.specs.List.{list_any, list_all, find}
use Rattle.rv_types.specs.Memory.{range}
use Rattle.machine_desc.specs.declared.Desc.{Desc}
use Rattle.machine_desc.specs.declared.SttModel.{SttModel}
use Rattle.window_model.specs.declared.Entry.{Entry}
use Rattle.window_model.specs.Order.{writes, sources, base_of, is_load, is_store, is_done, has_address, has_data}
use Rattle.window_model.specs.Taint.{address_tainted, any_tainted, permits, tainted, visible}
use Rattle.window_model.specs.Ready.{all_known, gives, holds, is_known}
use Rattle.window_model.specs.Access.{all_covered, any_store_hidden, covers}
use Rattle.window_model.proofs.Booleans.{and_no, and_not, and_when, is_some_if, neither}
use Rattle.window_model.proofs.Taints.{any_agree, tainted_cons}
use Rattle.two_runs.specs.Laws.{AddressTaintedAlike, ForwardedAlike, KnownAlike, LetAlike, OperandsTaintedAlike, StoresDoneAlike, TaintedAlike, VisibleAlike}
use Rattle.two_runs.specs.Seen.{SeenEntries, without_outcome}

-- entries that two runs see alike are equal but for outcomes
pub same_rest : (model : SttModel) (b b2 : List Entry) → SeenEntries model b b2 → map without_outcome b ≡ map without_outcome b2
same_rest model [] [] s = refl
same_rest model (e ∷ b) (e2 ∷ b2) s = ap₂ (λ t ts. t ∷ ts) s.0.but_outcome (same_rest model b b2 s.1)
same_rest model _ _ s = absurd s

-- ---- lists of tests

-- tests that answer alike find some element of equal lists, or none
pub any_same : (f g : ℕ → Bool) (rs rs2 : List ℕ) → rs ≡ rs2 → ((r : ℕ) → f r ≡ g r) → list_any f rs ≡ list_any g rs2
any_same f g rs rs2 p h = ap (list_any f) p ∙ any_agree f g rs2 h

-- tests that answer alike hold of all elements of equal lists, or of not all
pub all_same : (f g : ℕ → Bool) (rs rs2 : List ℕ) → rs ≡ rs2 → ((r : ℕ) → f r ≡ g r) → list_all f rs ≡ list_all g rs2
all_same f g rs rs2 p h = ap (list_all f) p ∙ over rs2
  where
    over : (rs : List ℕ) → list_all f rs ≡ list_all g rs
    over [] = refl
    over (r ∷ rs) = ap₂ (λ a b. a && b) (h r) (over rs)

-- the first of two tests is asked where the second holds
and_same : (a a2 b b2 : Bool) → b ≡ b2 → (b ≡ true → a ≡ a2) → (a && b) ≡ (a2 && b2)
and_same a a2 true true p h = ap (λ c. c && true) (h refl)
and_same a a2 false false p h = and_no a false refl ∙ sym (and_no a2 false refl)
and_same a a2 _ _ p h = absurd (cc)

-- ---- what is visible, tainted, known

-- two runs see alike what is visible
pub same_visible : VisibleAlike
same_visible model [] [] s = refl
same_visible model (e ∷ b) (e2 ∷ b2) s =
    and_same (permits model e) (permits model e2) (visible model b) (visible model b2) (same_visible model b b2 s.1) s.0.permits_alike
same_visible model _ _ s = absurd s

-- two runs see alike whether a register is tainted
pub same_tainted : TaintedAlike
same_tainted model [] [] r s = refl
same_tainted model (e ∷ b) (e2 ∷ b2) r s =
    let w : writes r e ≡ writes r e2 = ap (writes r) s.0.but_outcome in
    let l : is_load e.item.kind ≡ is_load e2.item.kind = ap (λ (t : Entry). is_load t.item.kind) s.0.but_outcome in
    let v = same_visible model b b2 s.1 in
    let a : any_tainted model b e ≡ any_tainted model b2 e2 = any_same (tainted model b) (tainted model b2) (sources e) (sources e2) (ap sources s.0.but_outcome) (λ r. same_tainted model b b2 r s.1) in
    let t = same_tainted model b b2 r s.1 in
    let c = tainted_cons model e b r in
    let c2 = tainted_cons model e2 b2 r in
    cc
same_tainted model _ _ r s = absurd s

-- two runs see alike whether some operand of an entry is tainted
pub same_any : OperandsTaintedAlike
same_any model b b2 s e e2 h = any_same (tainted model b) (tainted model b2) (sources e) (sources e2) (ap sources h) (λ r. same_tainted model b b2 r s)

-- two runs see alike whether the base of an entry is tainted
pub same_address : AddressTaintedAlike
same_address model b b2 s e e2 h = any_same (tainted model b) (tainted model b2) _ _ (ap (λ (t : Entry). base_of (sources t)) h) (λ r. same_tainted model b b2 r s)

-- two runs see alike whether the writer of a register gives its value
pub same_known : KnownAlike
same_known d [] [] r s = refl
same_known d (e ∷ b) (e2 ∷ b2) r s =
    let w : writes r e ≡ writes r e2 = ap (writes r) s.0.but_outcome in
    let v = same_visible d.stt_model b b2 s.1 in
    let g : gives d b e ≡ gives d b2 e2 =
    ap (λ (t : Entry). not (holds d.stt_defence && is_load t.item.kind && not (visible d.stt_model b)) && is_done t.state) s.0.but_outcome
    ∙ ap (λ v. not (holds d.stt_defence && is_load e2.item.kind && not v) && is_done e2.state) v in
    let more = same_known d b b2 r s.1 in
    ap (λ k. if writes r e then gives d b e else k) more ∙ ap (λ k. if writes r e then k else is_known d b2 r) g ∙ ap (λ w. if w then gives d b2 e2 else is_known d b2 r) w
same_known d _ _ r s = absurd s

-- two runs see alike whether the writers of equal registers all give their values
pub same_all_known : (d : Desc) (b b2 : List Entry) (rs rs2 : List ℕ) → SeenEntries d.stt_model b b2 → rs ≡ rs2 → all_known d b rs ≡ all_known d b2 rs2
same_all_known d b b2 rs rs2 s q = all_same _ _ rs rs2 q (λ r. same_known d b b2 r s)

-- ---- older stores

-- two runs see alike whether all older stores are Done
pub same_stores_done : StoresDoneAlike
same_stores_done model [] [] s = refl
same_stores_done model (e ∷ b) (e2 ∷ b2) s =
    ap₂ (λ x y. x && y) (ap (λ (t : Entry). not (is_store t.item.kind) || is_done t.state) s.0.but_outcome) (same_stores_done model b b2 s.1)
same_stores_done model _ _ s = absurd s

-- two runs see alike whether some older store has a hidden address
pub same_hidden : (model : SttModel) (b b2 : List Entry) → SeenEntries model b b2 → any_store_hidden model b ≡ any_store_hidden model b2
same_hidden model [] [] s = refl
same_hidden model (e ∷ b) (e2 ∷ b2) s =
    let k : is_store e.item.kind ≡ is_store e2.item.kind = ap (λ (t : Entry). is_store t.item.kind) s.0.but_outcome in
    let a = same_address model b b2 s.1 e e2 s.0.but_outcome in
    let rest = same_hidden model b b2 s.1 in
    cc
same_hidden model _ _ s = absurd s

-- two runs see alike whether a byte is covered, where no older store has a hidden address
same_covered : (model : SttModel) (b b2 : List Entry) (a : ℕ) → SeenEntries model b b2 → any_store_hidden model b ≡ false → is_some (find (covers a) b) ≡ is_some (find (covers a) b2)
same_covered model [] [] a s h = refl
same_covered model (e ∷ b) (e2 ∷ b2) a s h =
    let none = neither (is_store e.item.kind && address_tainted model b e) (any_store_hidden model b) h in
    let c : covers a e ≡ covers a e2 = s.0.covers_alike a (λ st. and_when (is_store e.item.kind) (address_tainted model b e) st none.0) in
    is_some_if (covers a e) (covers a e2) e e2 (find (covers a) b) (find (covers a) b2) c (same_covered model b b2 a s.1 none.1)
same_covered model _ _ a s h = absurd s

-- full forwarding is alike: where a store is hidden, neither forwards
forward_if : (c c2 h h2 : Bool) → h ≡ h2 → (h ≡ false → c ≡ c2) → (c && not h) ≡ (c2 && not h2)
forward_if c c2 false false q p = ap (λ b. b && true) (p refl)
forward_if c c2 true true q p = and_not c true refl ∙ sym (and_not c2 true refl)
forward_if c c2 _ _ q p = absurd (cc)

-- two runs see alike whether older stores forward all bytes of an access
pub same_forward : ForwardedAlike
same_forward model b b2 a n s =
    forward_if (all_covered b a n) (all_covered b2 a n) (any_store_hidden model b) (any_store_hidden model b2) (same_hidden model b b2 s)
    (λ h. all_same (λ r. is_some (find (covers r) b)) (λ r. is_some (find (covers r) b2)) (range a n) (range a n) refl (λ r. same_covered model b b2 r s h))

-- what a store lets go is seen alike, by the order of its tests
by_tests : (s a p t t2 c c2 : Bool) → t ≡ t2 → (s ≡ true → t ≡ false → c ≡ c2) → (not s || (a && (p || not t && not c))) ≡ (not s || (a && (p || not t2 && not c2)))
by_tests false a p t t2 c c2 q h = refl
by_tests true a true t t2 c c2 q h = refl
by_tests true a false true true c c2 q h = refl
by_tests true a false false false c c2 q h = ap (λ c. a && not c) (h refl refl)
by_tests true a false _ _ c c2 q h = absurd (cc)

-- two runs see alike whether older stores let a load of these bytes go
pub stores_let_alike : LetAlike
stores_let_alike model passes bytes [] [] s = refl
stores_let_alike model passes bytes (e ∷ b) (e2 ∷ b2) s =
    let tainted2 = address_tainted model b2 e2 in
    let covered2 = list_any (λ a. covers a e2) bytes in
    let one =
    by_tests (is_store e.item.kind) (has_address e || passes) (has_data e) (address_tainted model b e) tainted2 (list_any (λ a. covers a e) bytes) covered2
    (same_address model b b2 s.1 e e2 s.0.but_outcome)
    (λ k n. any_same (λ a. covers a e) (λ a. covers a e2) bytes bytes refl (λ a. s.0.covers_alike a (λ k. n)))
    ∙ ap (λ (u : Entry). not (is_store u.item.kind) || ((has_address u || passes) && (has_data u || not tainted2 && not covered2))) s.0.but_outcome in
    ap₂ (λ l r. l && r) one (stores_let_alike model passes bytes b b2 s.1)
stores_let_alike model passes bytes _ _ s = absurd s
