use Rattle.std.proofs.Common.{◌+◌, length}
use Rattle.std.proofs.lemmas.List.{take_rest}
use Rattle.script.proofs.Splitting.{longer}
use Rattle.script.proofs.words.split_word.Goals as goal

pub returns : goal.returns
returns c =
    rw (take_rest c.args.text.now (length c.in_ok-word.word.now + 1)) (longer _ _ _ _ c.in_ok-word.ensures)
