use Rattle.std.proofs.Common.{Option, refl}
use Rattle.std.specs.Prelude.{option_map}
use Rattle.std.proofs.lemmas.Bool.{false≢true}
use Rattle.names_hosts.specs.Mail.{MailText, mail_text}
use Rattle.path_host_constraints.specs.Lists.{members_of}
use Rattle.path_host_constraints.specs.MailLists.{ExcludesFound, ExcludesNoMail}
use Rattle.path_host_constraints.proofs.Loops.{is_one_at, holds_more_at, all_of}
use Rattle.path_host_constraints.proofs.mail_lists.excludes_no_mail.Goals as goal

pub returns-then-excludes_found : goal.returns-then-excludes_found
returns-then-excludes_found c = (
  λ never. absurd (false≢true never),
  λ none. absurd (none _ (is_one_at (option_map mail_text) c.args.names.now c.loop-found.found-index _ c.loop-found-test.true) (c.if-excludes_found.ensures.0 refl)),
)

pub loop-found-preserved : goal.loop-found-preserved
loop-found-preserved c =
    holds_more_at (option_map mail_text) c.args.names.now c.loop-found.found-index _ c.loop-found-test.true
    (λ (x : Option MailText). ¬ ExcludesFound (members_of c.args.indexes.now) x) c.loop-found.invariant (λ has. false≢true (c.if-excludes_found.ensures.1 has))

pub returns : goal.returns
returns c = (
  λ t. all_of (option_map mail_text) c.args.names.now c.loop-found.found-index (λ l. ExcludesNoMail (members_of c.args.indexes.now) l) c.loop-found-test.false c.loop-found.invariant,
  λ none. refl,
)
