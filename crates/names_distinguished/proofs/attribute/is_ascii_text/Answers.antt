use Rattle.names_distinguished.proofs.Strings.{ascii_is}
use Rattle.names_distinguished.proofs.attribute.is_ascii_text.Goals as goal

pub returns : goal.returns
returns c = ascii_is c.args.contents.now c.is_ascii.result c.is_ascii.ensures.cases
