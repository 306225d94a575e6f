-- Events that the derived comparison answers to be equal are equal.
use Rattle.std.proofs.Common.{◌≡◌, refl, ap, sym, ◌∙◌, Bool, true, ℕ}
use mathlib.Core.Bool.{true≢false}
use Rattle.std.specs.Prelude.{◌&&◌, ◌==◌}
use Rattle.std.specs.Cmp.{unsigned_Decides, booleans_Decides}
use Rattle.window_model.specs.contracts.EventEq.TheImpl.Laws.{laws-law}
use Rattle.window_model.specs.contracts.EventPartialEq.TheImpl.{ghosts}
use Rattle.window_model.specs.contracts.LookPartialEq.TheImpl as look
use Rattle.window_model.specs.contracts.WayPartialEq.TheImpl as way
use Rattle.window_model.specs.declared.Event.{Event}
use Rattle.window_model.specs.declared.Event.TheVariants.{Fill, Done, Res, Bp, Bt, Sq, Clr, Vio, Dp, Ret, St, Call, Alu, Mul, Div, Agu, Std, Ld, LdForward, LdFault, Pf, Ren, Fet}
use Rattle.window_model.specs.declared.Look.{Look}
use Rattle.window_model.specs.declared.Look.TheVariants.{Hit, Miss, Join, Second}
use Rattle.window_model.specs.declared.Way.{Way}
use Rattle.window_model.specs.declared.Way.TheVariants.{Taken, NotTaken, Jump}
use Rattle.window_model.proofs.Booleans.{both}

abbrev pub same : Event → Event → Bool
same a b = ghosts.eq a b

same_look : (a b : Look) → look.ghosts.eq a b ≡ true → a ≡ b
same_look Hit Hit e = refl
same_look Miss Miss e = refl
same_look Join Join e = refl
same_look Second Second e = refl
same_look _ _ e = absurd (true≢false (sym e))

same_way : (a b : Way) → way.ghosts.eq a b ≡ true → a ≡ b
same_way Taken Taken e = refl
same_way NotTaken NotTaken e = refl
same_way Jump Jump e = refl
same_way _ _ e = absurd (true≢false (sym e))

-- two events of one kind and one equal number are equal
one_is : (f : ℕ → Event) (n m : ℕ) → ((n == m) ≡ true) → f n ≡ f m
one_is f n m e = ap f ((unsigned_Decides n m).0 e)

-- two events of one kind and two equal numbers are equal
two_is : (f : ℕ → ℕ → Event) (n m n2 m2 : ℕ) → ((n == n2) && (m == m2)) ≡ true → f n m ≡ f n2 m2
two_is f n m n2 m2 e =
    let x = both _ _ e in
    let a = (unsigned_Decides n n2).0 x.0 in
    let b = (unsigned_Decides m m2).0 x.1 in
    ap (λ k. f k m) a ∙ ap (f n2) b

pub same_is : (a b : Event) → same a b ≡ true → a ≡ b
same_is (Fill n) (Fill m) e = one_is Fill n m e
same_is (Done n) (Done m) e = one_is Done n m e
same_is (Sq n) (Sq m) e = one_is Sq n m e
same_is (Clr n) (Clr m) e = one_is Clr n m e
same_is (Vio n) (Vio m) e = one_is Vio n m e
same_is (Ret n) (Ret m) e = one_is Ret n m e
same_is (Alu n) (Alu m) e = one_is Alu n m e
same_is (Mul n) (Mul m) e = one_is Mul n m e
same_is (Agu n) (Agu m) e = one_is Agu n m e
same_is (Std n) (Std m) e = one_is Std n m e
same_is (LdForward n) (LdForward m) e = one_is LdForward n m e
same_is (LdFault n) (LdFault m) e = one_is LdFault n m e
same_is (Fet n) (Fet m) e = one_is Fet n m e
same_is (Bp n m) (Bp n2 m2) e = two_is Bp n m n2 m2 e
same_is (Bt n m) (Bt n2 m2) e = two_is Bt n m n2 m2 e
same_is (Dp n m) (Dp n2 m2) e = two_is Dp n m n2 m2 e
same_is (Call n m) (Call n2 m2) e = two_is Call n m n2 m2 e
same_is (Div n m) (Div n2 m2) e = two_is Div n m n2 m2 e
same_is (Ren n m) (Ren n2 m2) e = two_is Ren n m n2 m2 e
same_is (Res n w) (Res n2 w2) e =
    let x = both _ _ e in
    let a = (unsigned_Decides n n2).0 x.0 in
    let b = same_way w w2 x.1 in
    cc
same_is (Pf n l) (Pf n2 l2) e =
    let x = both _ _ e in
    let a = (unsigned_Decides n n2).0 x.0 in
    let b = same_look l l2 x.1 in
    cc
same_is (St n m t) (St n2 m2 t2) e =
    let x = both _ _ e in
    let y = both _ _ x.1 in
    let a = (unsigned_Decides n n2).0 x.0 in
    let b = (unsigned_Decides m m2).0 y.0 in
    let c = (booleans_Decides t t2).0 y.1 in
    cc
same_is (Ld n m l) (Ld n2 m2 l2) e =
    let x = both _ _ e in
    let y = both _ _ x.1 in
    let a = (unsigned_Decides n n2).0 x.0 in
    let b = (unsigned_Decides m m2).0 y.0 in
    let c = same_look l l2 y.1 in
    cc
same_is _ _ e = absurd (true≢false (sym e))

pub is_same : (a b : Event) → a ≡ b → same a b ≡ true
is_same a b e = ap (same a) (sym e) ∙ laws-law.refl a
