use Rattle.secret_words.proofs.Reading.{bytes_read, no_bytes, bytes_not_read}
use Rattle.secret_words.proofs.ranges.bytes_of.Goals as goal

pub returns-then-bytes-ge-BYTES_MIN : goal.returns-then-bytes-ge-BYTES_MIN
returns-then-bytes-ge-BYTES_MIN c = bytes_read _ _ c.in-Some.ensures c.if-bytes-ge-BYTES_MIN.true

pub returns-else-bytes-ge-BYTES_MIN : goal.returns-else-bytes-ge-BYTES_MIN
returns-else-bytes-ge-BYTES_MIN c = no_bytes _ _ c.in-Some.ensures c.if-bytes-ge-BYTES_MIN.false

pub returns-in-None : goal.returns-in-None
returns-in-None c = bytes_not_read _ c.in-None.ensures
