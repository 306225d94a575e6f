-- What the path of each small program tells, evaluated.
use Rattle.std.proofs.Common.{refl}
use Rattle.std.specs.Int.Count.{count_leading_zeros}
use Rattle.rv_types.specs.Decode.{decode}
use Rattle.rv_types.specs.Isa.{isa_step}
use Rattle.rv_types.specs.Path.{pass_step}
use Rattle.window_model.proofs.Worked.{code_of, memory}
use Rattle.constant_time.specs.Worked.{PathsThatHide, PathsThatPublish, PathsThatShow}

-- the path of each of these small programs shows the secret, first in the step that stands beside it
pub paths_that_show : PathsThatShow
unfolding decode isa_step pass_step count_leading_zeros memory code_of
paths_that_show = record {
  looked_up = refl;
  stored_to = refl;
  stored_told = refl;
  branches = refl;
  jumps = refl;
  divides = refl;
  exits = refl;
  exit_told = refl;
  passed = refl;
  forwarded = refl;
  stored = refl;
  upper_half = refl;
  second = refl;
  sign = refl;
  carry = refl;
  called = refl;
  behind_fault = refl;
  no_further = refl;
}

-- the path of each of these small programs doesn't show the secret
pub paths_that_hide : PathsThatHide
unfolding decode isa_step pass_step count_leading_zeros memory code_of
paths_that_hide = record {
  bypassed = refl;
  selects = refl;
  mixes = refl;
  divides_by_secret = refl;
  lower_half = refl;
  public_byte = refl;
  answered = refl;
}

-- what the path of each of these programs tells where stream 2 is public
pub paths_that_publish : PathsThatPublish
unfolding decode isa_step pass_step count_leading_zeros memory code_of
paths_that_publish = record {
  published = refl;
  verdict = refl;
  in_time = refl;
  published_marked = refl;
  verdict_marked = refl;
  in_time_marked = refl;
  other_stream = refl;
  outside = refl;
  kept = refl;
  in_part = refl;
}
