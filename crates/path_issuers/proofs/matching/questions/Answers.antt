use Rattle.std.proofs.Common.{length, sym}
use Rattle.std.proofs.lemmas.List.{length-map}
use Rattle.cert.specs.Certificate.{seen_certificate}
use Rattle.path_issuers.specs.View.{seen_search}
use Rattle.path_issuers.proofs.Asked.{listed}
use Rattle.path_issuers.proofs.matching.questions.Goals as goal

pub returns-clause-questions : goal.returns-clause-questions
returns-clause-questions c =
    let bag = c.args.search.now.bag.now in
    (listed (seen_search c.args.search.now) c.in_ok-naming.naming c.in_ok-naming.ensures (length bag) c.new-questions.result.items
    c.add_about_anchors.new.questions.items c.add_about_issued.new.questions.items (sym (length-map bag seen_certificate))
    c.new-questions.ensures.items c.in_ok-add_about_anchors.ensures c.in_ok-add_about_issued.ensures).0

pub returns-clause-order : goal.returns-clause-order
returns-clause-order c =
    let bag = c.args.search.now.bag.now in
    (listed (seen_search c.args.search.now) c.in_ok-naming.naming c.in_ok-naming.ensures (length bag) c.new-questions.result.items
    c.add_about_anchors.new.questions.items c.add_about_issued.new.questions.items (sym (length-map bag seen_certificate))
    c.new-questions.ensures.items c.in_ok-add_about_anchors.ensures c.in_ok-add_about_issued.ensures).1
