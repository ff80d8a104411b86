use Rattle.std.proofs.Common.{◌∙◌, sym}
use Rattle.std.proofs.lemmas.Bool.{false≢true}
use Rattle.path_issuers.specs.View.{seen_search}
use Rattle.path_search.proofs.Walks.{no_links}
use Rattle.path_search.proofs.paths.links_for.Goals as goal

pub returns-clause-links : goal.returns-clause-links
returns-clause-links g c =
    no_links (g.V.Verifier.accepts c.args.verifier.now) (seen_search c.args.search.now)
    (λ right. false≢true (sym c.if-has_right_target.false ∙ c.has_right_target.ensures.1 right))
    (record { issuers = c.new.result; anchors = c.new-2.result }) c.new.ensures.items c.new-2.ensures.items
