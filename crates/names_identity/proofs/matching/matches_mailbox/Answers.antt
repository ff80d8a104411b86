use Rattle.std.proofs.Common.{◌∙◌, ap}
use Rattle.names_identity.specs.Identity.{folded}
use Rattle.names_identity.proofs.MailboxTexts.{same_behind}
use Rattle.names_identity.proofs.matching.matches_mailbox.Goals as goal

pub returns-in-Some : goal.returns-in-Some
returns-in-Some c =
    let behind = c.in-Some.behind.now in (
      λ t. record { behind = behind; joined = c.in-Some.ensures; same = c.eq_ignore_ascii_case.ensures.test.0 t },
      λ m. c.eq_ignore_ascii_case.ensures.test.1
          (ap folded (same_behind c.args.name.now c.args.local.now behind m.behind c.in-Some.ensures m.joined) ∙ m.same),
    )
