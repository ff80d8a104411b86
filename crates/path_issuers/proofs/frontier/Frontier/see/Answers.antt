use Rattle.std.proofs.Common.{◌∙◌, false, refl, sym}
use Rattle.path_issuers.proofs.Exploring.{grows, grows_by}
use Rattle.path_issuers.proofs.frontier.Frontier.see.Goals as goal

pub returns-in_ok-push-in-Some-clause-grows : goal.returns-in_ok-push-in-Some-clause-grows
returns-in_ok-push-in-Some-clause-grows c =
    let item = c.in-Some.ensures.item in
    grows c.args.self.now _ c.args.place item.3.0 (sym (item.3.1 false) ∙ c.if-not-get_mut.true) refl c.in_ok-push-in-Some.ensures.items

pub returns-in_ok-push-in-Some-clause-only : goal.returns-in_ok-push-in-Some-clause-only
returns-in_ok-push-in-Some-clause-only c =
    let item = c.in-Some.ensures.item in
    grows_by c.args.self.now _ c.args.place item.3.0 (sym (item.3.1 false) ∙ c.if-not-get_mut.true) refl c.in_ok-push-in-Some.ensures.items
