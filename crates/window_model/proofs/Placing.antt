-- Resolve at the place that it finds: the entry there is resolved, and what is younger than it stays or goes.
use Rattle.std.proofs.Common.{◌≡◌, Bool, true, false, List, [], ◌∷◌, ◌++◌, Some, refl, sym, subst, append_assoc}
use Rattle.std.specs.Prelude.{if◌then◌else◌, reverse}
use Rattle.machine_desc.specs.declared.Desc.{Desc}
use Rattle.window_model.specs.declared.Entry.{Entry}
use Rattle.window_model.specs.Order.{Place}
use Rattle.window_model.specs.Resolve.{resolve, resolve_at, may_resolve, learn, with_predictor, squash, keep, squashes}
use Rattle.window_model.specs.State.{Machine}
use Rattle.window_model.proofs.Places.{Found, by_place}
use Rattle.window_model.proofs.Resolving.{MayResolve, resolve_parts, resolved_one, placed}

-- what holds of a window up to any place holds up to and with an entry
pub cut_behind : (W : List Entry → Type 0) → ((front back : List Entry) → W (front ++ back) → W front) → (older : List Entry) (e : Entry) (ys : List Entry) → W (older ++ e ∷ ys) → W (older ++ e ∷ [])
cut_behind W cuts older e ys h = cuts (older ++ e ∷ []) ys (subst W (sym (append_assoc older (e ∷ []) ys)) h)

-- what Resolve knows of the entry that it takes, and of the window
pub record Taken (d : Desc) (x : Machine) (p : Place) : Type 0 where
  pub window : x.window ≡ reverse p.before ++ p.entry ∷ p.younger
  pub parts : MayResolve d p.before p.entry

-- the machine once the predictor has learnt from an entry
abbrev pub taught : Desc → Place → Machine → Machine
taught d p x = let l = learn d p.entry x.counters x.targets in with_predictor x l.counters l.targets

module _ (d : Desc) (P : Machine → Type 0) where
  -- what is kept where all that is younger goes, and where it stays, Resolve keeps
  pub resolve_keep : ((x : Machine) (p : Place) → Taken d x p → squashes p.entry ≡ true → P x → P (squash d p (taught d p x)).machine) →
      ((x : Machine) (p : Place) → Taken d x p → squashes p.entry ≡ false → P x → P (keep p (taught d p x)).machine) → (x : Machine) → P x → P (resolve d x).machine
  resolve_keep cuts keeps x h = by_place (may_resolve d) x.window (λ o. P (resolve_at d o x).machine) h at_place
    where
      either : (p : Place) → Taken d x p → (b : Bool) → squashes p.entry ≡ b → P (if b then squash d p (taught d p x) else keep p (taught d p x)).machine
      either p f true q = cuts x p f q h
      either p f false q = keeps x p f q h

      at_place : (p : Place) → Found (may_resolve d) [] x.window p → P (resolve_at d (Some p) x).machine
      at_place p f = either p (record { window = placed d x.window p f; parts = resolve_parts d p.before p.entry f.has }) (squashes p.entry) refl

-- what holds of a window with a resolved entry, and up to any place, Resolve keeps
module _ (d : Desc) (W : List Entry → Type 0) (cuts : (front back : List Entry) → W (front ++ back) → W front)
    (marks : (b : List Entry) (e : Entry) (ys : List Entry) → MayResolve d b e → W (reverse b ++ e ∷ ys) → W (reverse b ++ resolved_one e ∷ ys)) where
  marked : (x : Machine) (p : Place) → Taken d x p → W x.window → W (reverse p.before ++ resolved_one p.entry ∷ p.younger)
  marked x p f h = marks p.before p.entry p.younger f.parts (subst W f.window h)

  -- what holds of a window with a resolved entry, and up to any place, Resolve keeps
  pub place_keep : (x : Machine) → W x.window → W (resolve d x).machine.window
  place_keep = resolve_keep d (λ x. W x.window) (λ x p f q h. cut_behind W cuts (reverse p.before) (resolved_one p.entry) p.younger (marked x p f h)) (λ x p f q h. marked x p f h)
