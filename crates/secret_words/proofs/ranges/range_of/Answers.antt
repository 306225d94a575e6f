use Rattle.std.proofs.Common.{◌∙◌, arith}
use Rattle.secret_words.proofs.Reading.{range_without_colon, range_without_address, range_without_bytes, range_read}
use Rattle.secret_words.proofs.ranges.range_of.Goals as goal

pub returns-in_err-address : goal.returns-in_err-address
returns-in_err-address c = c.from_residual.ensures ∙ range_without_colon _ (c.in_err-address.ensures.byte (omega arith) (λ w o h. h))

pub returns-in_err-addr : goal.returns-in_err-addr
returns-in_err-addr c =
    let parts = c.in_ok-address.ensures.byte (omega arith) (λ w o h. h) in
    c.from_residual-in_err-addr.ensures ∙ range_without_address _ _ parts.2 parts.0 c.in_err-addr.ensures

pub returns-in_err-bytes : goal.returns-in_err-bytes
returns-in_err-bytes c =
    let parts = c.in_ok-address.ensures.byte (omega arith) (λ w o h. h) in
    c.from_residual-in_err-bytes.ensures ∙ range_without_bytes _ _ _ _ parts.2 parts.0 parts.1 c.in_ok-addr.ensures c.in_err-bytes.ensures

pub returns : goal.returns
returns c =
    let parts = c.in_ok-address.ensures.byte (omega arith) (λ w o h. h) in
    range_read _ _ _ _ _ parts.2 parts.0 parts.1 c.in_ok-addr.ensures c.in_ok-bytes.ensures
