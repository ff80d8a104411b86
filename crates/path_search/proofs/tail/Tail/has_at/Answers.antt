use Rattle.std.proofs.Common.{◌∙◌, ap}
use Rattle.std.specs.Str.{bytes_eq}
use Rattle.cert.specs.Certificate.{Certificate}
use Rattle.path_search.proofs.tail.Tail.has_at.Goals as goal

pub returns : goal.returns
returns c = c.eq.ensures ∙ ap (λ (d : Certificate). bytes_eq d.octets c.args.octets.now) c.at.ensures
