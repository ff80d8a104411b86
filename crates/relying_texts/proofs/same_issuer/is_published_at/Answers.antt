use Rattle.relying_texts.proofs.SameIssuers.{anywhere}
use Rattle.relying_texts.proofs.same_issuer.is_published_at.Goals as goal

pub returns-in-None : goal.returns-in-None
returns-in-None c = rw c.in-None.is (anywhere c.args.point.now c.is_empty.result c.is_empty.ensures)
