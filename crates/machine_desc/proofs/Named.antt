-- A model or defence that is read is one that the version knows.
use Rattle.std.proofs.Common.{◌≡◌, ℕ, Bool, true, false, IsTrue, if◌then◌else◌, Option, Some, None, Ok, Err, refl}
use Rattle.std.specs.Prelude.{◌&&◌, codes}
use Rattle.std.specs.Str.{bytes_eq}
use Rattle.toml.specs.Data.{Data, string, Members}
use Rattle.machine_desc.specs.declared.SttModel.{SttModel}
use Rattle.machine_desc.specs.declared.SttModel.TheVariants.{Spectre, Futuristic, Off}
use Rattle.machine_desc.specs.declared.Defence.{Defence}
use Rattle.machine_desc.specs.declared.Defence.TheVariants.{Stt, Hold, Delay}
use Rattle.machine_desc.specs.declared.keys.Key.TheVariants.{SttModel as ModelKey, SttDefence as DefenceKey}
use Rattle.machine_desc.specs.declared.fault.DescFault.{DescFault}
use Rattle.machine_desc.specs.Version.{IsKnown, knows_off, knows_defences, knows_model, knows_defence}
use Rattle.machine_desc.specs.Table.{is_known}
use Rattle.machine_desc.specs.Description.{model_in, defence_in, value_at}
use Rattle.machine_desc.specs.inner.Description.{model, defence}
use Rattle.machine_desc.proofs.Versions.{defences_if_known}

-- the model of a name, whichever names are known
named : (m : SttModel) (a b c off : Bool) (e : DescFault)
    → (if a then Ok Spectre else if b then Ok Futuristic else if off && c then Ok Off else Err e) ≡ Ok m → (v : ℕ) → knows_off v ≡ off → IsTrue (knows_model v m)
named Spectre a b c off e q v k = refl
named Futuristic a b c off e q v k = refl
named Off true b c off e q v k = absurd (cc)
named Off false true c off e q v k = absurd (cc)
named Off false false c true e q v k = k
named Off false false c false e q v k = absurd (cc)

model_by : (v : ℕ) (o : Option Data) (m : SttModel) → model_in ModelKey (knows_off v) o ≡ Ok m → IsTrue (knows_model v m)
model_by v None m q = absurd (cc)
model_by v (Some (string text)) m q =
    named m (bytes_eq text (codes "spectre")) (bytes_eq text (codes "futuristic")) (bytes_eq text (codes "off")) (knows_off v) _ q v refl
model_by v (Some _) m q = absurd (cc)

pub model_known : (v : ℕ) (document : Members) (m : SttModel) → model v document ≡ Ok m → IsTrue (knows_model v m)
model_known v document m q = model_by v (value_at document ModelKey) m q

-- the defence of a name
named_defence : (t : Defence) (a b c every : Bool) (e : DescFault)
    → (if a then Ok Stt else if every && b then Ok Hold else if every && c then Ok Delay else Err e) ≡ Ok t → (v : ℕ) → knows_defences v ≡ every → IsTrue (knows_defence v t)
named_defence Stt a b c every e q v k = refl
named_defence t a b c true e q v k = each t v k
  where
    each : (t : Defence) (v : ℕ) → knows_defences v ≡ true → IsTrue (knows_defence v t)
    each Stt v k = refl
    each Hold v k = k
    each Delay v k = k
named_defence Hold true b c false e q v k = absurd (cc)
named_defence Hold false b c false e q v k = absurd (cc)
named_defence Delay true b c false e q v k = absurd (cc)
named_defence Delay false b c false e q v k = absurd (cc)

defence_by : (v : ℕ) (every : Bool) (o : Option Data) (t : Defence) → knows_defences v ≡ every → defence_in DefenceKey every o ≡ Ok t → IsTrue (knows_defence v t)
defence_by v every None Stt k q = refl
defence_by v every None Hold k q = absurd (cc)
defence_by v every None Delay k q = absurd (cc)
defence_by v every (Some (string text)) t k q = named_defence t (bytes_eq text (codes "stt")) (bytes_eq text (codes "hold")) (bytes_eq text (codes "delay")) every _ q v k
defence_by v every (Some _) t k q = absurd (cc)

-- a defence that is read is one that the version knows
pub defence_known : (v : ℕ) → IsKnown v → (document : Members) (t : Defence) → defence v document ≡ Ok t → IsTrue (knows_defence v t)
defence_known v known document t q = defence_by v (is_known v DefenceKey) (value_at document DefenceKey) t (defences_if_known v known) q
