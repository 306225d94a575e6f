use Rattle.constant_time.proofs.Ciphers.{cipher_on_every_core, table_shows}
use Rattle.constant_time.proofs.cipher_hides_its_key_on_every_core.Goals as goal

pub returns : goal.returns
returns c = record { every_core = cipher_on_every_core; table = table_shows }
