-- The width of an access and its bytes.
use Rattle.std.proofs.Common.{◌≡◌, ℕ, refl, ap, ◌∙◌}
use Rattle.rv_types.specs.declared.Op.{Op}
use Rattle.rv_types.specs.declared.Op.TheVariants.{Lw, Sw, Lh, Lhu, Sh}
use Rattle.rv_types.specs.declared.Width.{Width}
use Rattle.rv_types.specs.declared.Width.TheVariants.{B, H, W}
use Rattle.rv_types.specs.Value.{bytes_in, size_of}
use Rattle.issue.specs.Puts.{width_for}

back : (w : Width) → w ≡ width_for (bytes_in w)
back B = refl
back H = refl
back W = refl

-- a width of so many bytes is the width for them
pub width_is : (w : Width) (n : ℕ) → bytes_in w ≡ n → w ≡ width_for n
width_is w n h = back w ∙ ap width_for h

-- an operation's bytes are those of a width
pub size_is : (op : Op) → bytes_in (width_for (size_of op)) ≡ size_of op
size_is Lw = refl
size_is Sw = refl
size_is Lh = refl
size_is Lhu = refl
size_is Sh = refl
size_is _ = refl
