use Rattle.path.specs.Reading.{seen_query, texts_of}
use Rattle.path.proofs.Profiles.{path_is_stated, refused_as_stated}
use Rattle.path.proofs.query.Query.read.Goals as goal

pub returns-clause-path : goal.returns-clause-path
returns-clause-path c = path_is_stated seen_query c.read_with.result c.args.anchor.now (texts_of c.args.path.now) _ _ (rw c.stated.ensures at c.read_with.ensures.read)

pub returns-clause-refused : goal.returns-clause-refused
returns-clause-refused c =
    refused_as_stated (λ refusal. refusal.certificate) (λ refusal. refusal.fault) c.read_with.result c.args.anchor.now (texts_of c.args.path.now) (rw c.stated.ensures at c.read_with.ensures.refused)
