use Rattle.std.proofs.Common.{rules}
use Rattle.names_text.specs.Preparation.{is_space}
use Rattle.names_text.proofs.Words.{len_none}
use Rattle.names_text.proofs.preparation.word_len.Goals as goal

pub returns-in-None-clause-value : goal.returns-in-None-clause-value
returns-in-None-clause-value c = len_none is_space c.args.text.now (search rules)
