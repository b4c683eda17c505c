-- How many bytes entries and answers have at most as fields of frames.
use Rattle.zy_wire.proofs.Lengths.{IsAtMost, u62-at_most, word32-at_most, sized16-at_most, pair-at_most, converted-at_most}
use Rattle.zy_chain.specs.Answers.{answers_fields}
use Rattle.zy_chain.specs.Fields.{entry_fields}
use Rattle.zy_chain.specs.Sizes.{entry_size, answers_size}

pub entry-at_most : IsAtMost entry_fields entry_size
unfolding entry_fields
entry-at_most = converted-at_most _ _ _ _ (pair-at_most _ _ _ _ word32-at_most (pair-at_most _ _ _ _ (u62-at_most 0) (sized16-at_most 1100)))

pub answers-at_most : IsAtMost answers_fields answers_size
answers-at_most = sized16-at_most 1100
