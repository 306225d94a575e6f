use Rattle.noninterference.proofs.Gadgets.{bypass_hides, store_hides, branch_hides, divisor_hides, injection_hides, store_bypass_hides, fault_hides, fault_loads_secret}
use Rattle.noninterference.proofs.secrets_stay_hidden.Goals as goal

pub returns : goal.returns
returns c = record {
  bounds_check_bypass = bypass_hides;
  tainted_store_address = store_hides;
  tainted_branch = branch_hides;
  tainted_divisor = divisor_hides;
  target_injection = injection_hides;
  speculative_store_bypass = store_bypass_hides;
  fault_shadow = fault_hides;
  fault_shadow_spectre = fault_loads_secret;
}
