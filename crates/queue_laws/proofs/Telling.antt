-- Where the stores of a queue stand for those of entries, they give to a load what the entries do.
use Rattle.std.proofs.Common.{◌≡◌, ℕ, zero, suc, ◌+◌, ◌-◌, Bool, true, false, cond, not, ◌&&◌, ◌||◌, List, [], ◌∷◌, Option, Some, None, refl, ap, ap₂, sym, ◌∙◌}
use Rattle.std.specs.Prelude.{map, is_some, slice_index, if◌then◌else◌}
use Rattle.std.specs.List.{filter, find, list_all, list_any}
use Rattle.std.specs.Option.{option_map, option_or}
use Rattle.rv_types.specs.Word.{to_le}
use Rattle.rv_types.specs.Memory.{Ram, range}
use Rattle.machine_desc.specs.declared.SttModel.{SttModel}
use Rattle.window_model.specs.declared.Entry.{Entry}
use Rattle.window_model.specs.Order.{has_address, has_data, is_store}
use Rattle.window_model.specs.Taint.{address_tainted}
use Rattle.window_model.specs.Access.{byte_from, byte_of, covers, reaches}
use Rattle.window_model.specs.MayIssue.{stores_let}
use Rattle.window_model.specs.Retire.{stored_of, byte_count}
use Rattle.window_model.proofs.Booleans.{both}
use Rattle.lsq.specs.declared.store.Span.{Span}
use Rattle.lsq.specs.declared.store.Store.{Store}
use Rattle.lsq.specs.Merging.{byte_in_span, byte_or_memory, forwarded_byte}
use Rattle.queue_laws.specs.Window.{Area, Shown, StoresStandFor, area_in, area_of, shown_entry, shown_store, stores_in}
use Rattle.queue_laws.specs.Laws.{BytesAsLoaded, CoveredAsAsked}
use Rattle.queue_laws.proofs.Shown.{all_computed, all_have, computed_one, covers_shown, reaches_shown}

-- ---- by what both show

abbrev byte_there : ℕ → Bool → Option Area → Option ℕ → Option ℕ
byte_there a reached None stored = None
byte_there a reached (Some k) None = None
byte_there a reached (Some k) (Some stored) = if reached then Some (slice_index (to_le k.bytes stored) (a - k.addr)) else None

abbrev byte_shown : ℕ → Shown → Option ℕ
byte_shown a s = byte_there a (reaches_shown a s.span) s.span s.stored

abbrev forwarded_shown : List Shown → ℕ → Option ℕ
forwarded_shown [] a = None
forwarded_shown (s ∷ ss) a = option_or (byte_shown a s) (forwarded_shown ss a)

-- ---- of the queue

byte_known : (a : ℕ) (k : Option Span) (stored : Option ℕ) → byte_in_span a k stored ≡ byte_there a (reaches_shown a (option_map area_of k)) (option_map area_of k) stored
byte_known a None stored = refl
byte_known a (Some k) None = refl
byte_known a (Some k) (Some stored) = refl

forwarded_known : (a : ℕ) (ss : List Store) → forwarded_byte ss a ≡ forwarded_shown (map shown_store ss) a
forwarded_known a [] = refl
forwarded_known a (s ∷ ss) = ap₂ option_or (byte_known a s.span s.stored) (forwarded_known a ss)

-- ---- of the entries

-- a store that covers the byte has its data
abbrev gives : ℕ → Entry → Bool
gives a e = not (covers a e) || has_data e

-- what lets a load of a byte and of others go gives the byte, and lets a load of the others go
split_one : (s p f d t q r : Bool) → (not s || (p || f) && (d || not t && not (s && p && q || r))) ≡ true →
    ((not (s && p && q) || d) ≡ true) × ((not s || (p || f) && (d || not t && not r)) ≡ true)
split_one false p f d t q r h = (refl, refl)
split_one true false true d t q r h = (refl, h)
split_one true false false d t q r h = absurd (cc)
split_one true true f true t true r h = (refl, refl)
split_one true true f true t false r h = (refl, refl)
split_one true true f false true q r h = absurd (cc)
split_one true true f false false true r h = absurd (cc)
split_one true true f false false false true h = absurd (cc)
split_one true true f false false false false h = (refl, refl)

joined : (a b c d : Bool) → a ≡ true → b ≡ true → (c ≡ true) × (d ≡ true) → ((a && c) ≡ true) × ((b && d) ≡ true)
joined true true c d p q h = h
joined false b c d p q h = absurd (cc)
joined true false c d p q h = absurd (cc)

byte_let : (model : SttModel) (passes : Bool) (a : ℕ) (bytes : List ℕ) (before : List Entry) → stores_let model passes (a ∷ bytes) before ≡ true →
    (list_all (gives a) before ≡ true) × (stores_let model passes bytes before ≡ true)
byte_let model passes a bytes [] h = (refl, refl)
byte_let model passes a bytes (e ∷ before) h =
    let p = both _ (stores_let model passes (a ∷ bytes) before) h in
    let one = split_one (is_store e.item.kind) (has_address e) passes (has_data e) (address_tainted model before e) (reaches a (byte_count e) e.outcome) (list_any (λ a. covers a e) bytes) p.0 in
    joined (gives a e) _ (list_all (gives a) before) (stores_let model passes bytes before) one.0 one.1 (byte_let model passes a bytes before p.1)

-- the byte of the youngest that covers it
found_as : (a : ℕ) (c p d : Bool) (e : Entry) (r : Option ℕ) (o : Option Entry) → (c ≡ true → p ≡ true) → (not c || d) ≡ true → r ≡ option_map (byte_from a) o →
    option_or (byte_there a c (if p then Some (area_in e) else None) (if d then Some (stored_of e.outcome) else None)) r ≡ option_map (byte_from a) (cond c (Some e) o)
found_as a true true true e r o k g h = refl
found_as a true true false e r o k g h = absurd (cc)
found_as a true false d e r o k g h = let no = k refl in absurd (cc)
found_as a false true true e r o k g h = h
found_as a false true false e r o k g h = h
found_as a false false d e r o k g h = h

has_there : (s p q : Bool) → (s && p && q) ≡ true → p ≡ true
has_there true true q h = refl
has_there true false q h = absurd (cc)
has_there false p q h = absurd (cc)

not_covered : (a : ℕ) (e : Entry) → is_store e.item.kind ≡ false → covers a e ≡ false
not_covered a e h = ap (λ b. b && has_address e && reaches a (byte_count e) e.outcome) h

found_one : (a : ℕ) (b : Bool) (e : Entry) (f : List Entry) (o : Option Entry) → is_store e.item.kind ≡ b → gives a e ≡ true → (b ≡ true → (shown_entry e).computed ≡ true) →
    forwarded_shown (map shown_entry f) a ≡ option_map (byte_from a) o →
    forwarded_shown (map shown_entry (cond b (e ∷ f) f)) a ≡ option_map (byte_from a) (cond (covers a e) (Some e) o)
found_one a true e f o s g u h =
    ap (λ c. option_or (byte_there a c (shown_entry e).span (shown_entry e).stored) (forwarded_shown (map shown_entry f) a)) (covers_shown a e s (u refl))
    ∙ found_as a (covers a e) (has_address e) (has_data e) e (forwarded_shown (map shown_entry f) a) o
    (has_there (is_store e.item.kind) (has_address e) (reaches a (byte_count e) e.outcome)) g h
found_one a false e f o s g u h = h ∙ ap (λ c. option_map (byte_from a) (cond c (Some e) o)) (sym (not_covered a e s))

found_entries : (a : ℕ) (before : List Entry) → list_all (gives a) before ≡ true → all_computed (stores_in before) ≡ true → forwarded_shown (stores_in before) a ≡ option_map (byte_from a) (find (covers a) before)
found_entries a [] t u = refl
found_entries a (e ∷ before) t u =
    let ts = both (gives a e) (list_all (gives a) before) t in
    let us = computed_one (is_store e.item.kind) e (filter (λ e. is_store e.item.kind) before) u in
    found_one a (is_store e.item.kind) e (filter (λ e. is_store e.item.kind) before) (find (covers a) before) refl ts.0 us.0 (found_entries a before ts.1 us.1)

-- ---- a byte

forwarded_is : (a : ℕ) (ss : List Store) (before : List Entry) → StoresStandFor ss before → list_all (gives a) before ≡ true → forwarded_byte ss a ≡ option_map (byte_from a) (find (covers a) before)
forwarded_is a ss before h t =
    forwarded_known a ss ∙ ap (λ ws. forwarded_shown ws a) h ∙ found_entries a before t (all_have ss before h)

byte_of_found : (ram : Ram) (a : ℕ) (o : Option Entry) → byte_or_memory ram a (option_map (byte_from a) o) ≡ byte_of ram a o
byte_of_found ram a None = refl
byte_of_found ram a (Some e) = refl

some_found : (a : ℕ) (o : Option Entry) → is_some (option_map (byte_from a) o) ≡ is_some o
some_found a None = refl
some_found a (Some e) = refl

-- ---- the laws

-- a load that older stores let go finds its bytes in the queue and memory
pub bytes_are : BytesAsLoaded
bytes_are model passes ram ss before a zero h t = refl
bytes_are model passes ram ss before a (suc n) h t =
    let p = byte_let model passes a (range (a + 1) n) before t in
    ap₂ (λ b bs. b ∷ bs) (ap (byte_or_memory ram a) (forwarded_is a ss before h p.0) ∙ byte_of_found ram a (find (covers a) before)) (bytes_are model passes ram ss before (a + 1) n h p.1)

-- a load that older stores let go is told whether they cover all its bytes
pub covered_is : CoveredAsAsked
covered_is model passes ss before a zero h t = refl
covered_is model passes ss before a (suc n) h t =
    let p = byte_let model passes a (range (a + 1) n) before t in
    ap₂ (λ a b. a && b) (ap is_some (forwarded_is a ss before h p.0) ∙ some_found a (find (covers a) before)) (covered_is model passes ss before (a + 1) n h p.1)
