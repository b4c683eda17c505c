use Rattle.std.proofs.Common.{refl}
use Rattle.zy_chain.specs.Entries.{bytes_of_request, digest_of_request}
use Rattle.zy_chain.proofs.entry.request_digest.Goals as goal

-- the hasher was fed the request's bytes in four pieces
pub returns : goal.returns
unfolding bytes_of_request digest_of_request
returns c =
    let whole = c.finalize.ensures _ (c.update-4.ensures _ (c.update-3.ensures _ (c.update-2.ensures _ (c.update.ensures _ c.new-hasher.ensures)))) in
    rw (whole, c.to_be_bytes.ensures, c.to_be_bytes-2.ensures, c.to_be_bytes-3.ensures) refl
