use Rattle.std.proofs.Common.{rules}
use Rattle.zy_pieces.proofs.PieceLemmas.{same_fields}
use Rattle.zy_pieces.proofs.piece.Piece.fields.Goals as goal

pub returns-clause-fields : goal.returns-clause-fields
returns-clause-fields c = same_fields c.args.datagram.now _ _ _ _ (search rules) (search rules) (search rules) (search rules)
