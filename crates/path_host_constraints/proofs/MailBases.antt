-- Bases on mail addresses are narrowed.
use Rattle.std.proofs.Common.{◌≡◌, ◌≢◌, ◌↔◌, Option, None, Some, List, [], ◌++◌, sym, ap, subst, ◌∙◌}
use Rattle.names_hosts.specs.Laws.{MailInsideIsExact, SharedMailIsNested}
use Rattle.names_hosts.specs.Mail.{MailText, MailNames, IsAmongMail, IsMailInside}
use Rattle.names_hosts.specs.MailLists.{HasMail}
use Rattle.path_host_constraints.specs.Lists.{Selects, left_of, changed}
use Rattle.path_host_constraints.specs.MailLists.{SelectsMail, NarrowsMail, MailLieIn, PermitsMailIn, IsNarrowedMail}
use Rattle.path_host_constraints.proofs.Narrowed.{Nests, narrowed, lying_in}

pub mail_nests : MailInsideIsExact → SharedMailIsNested → Nests IsAmongMail IsMailInside
mail_nests exact nested = record { sound = λ s t x inside among. (exact s t).0 inside x among; nested = nested }

-- what is kept of the held bases, and what enters of those that come, have just the mail addresses that both have
pub narrowed_mail : Nests IsAmongMail IsMailInside → (held carried carried_index none bases kept kept_index entering index : List MailNames)
    → carried_index ≡ carried → none ≡ [] → bases ≡ held → kept_index ≡ kept → SelectsMail carried_index none bases kept → SelectsMail held kept_index carried entering
    → index ≡ entering ++ kept_index → NarrowsMail held carried index
narrowed_mail nests held carried carried_index none bases kept kept_index entering index carried_is none_is bases_are kept_is first second index_is name =
    subst (λ (l : List MailNames). HasMail l name ↔ (HasMail held name × HasMail carried name)) (sym (index_is ∙ ap (λ (l : List MailNames). entering ++ l) kept_is))
    (narrowed IsAmongMail IsMailInside nests held carried kept entering keeps enters name)
  where
    keeps : Selects IsAmongMail IsMailInside carried [] held kept
    keeps =
        subst (λ (l : List MailNames). Selects IsAmongMail IsMailInside carried [] l kept) bases_are
        (subst (λ (l : List MailNames). Selects IsAmongMail IsMailInside carried l bases kept) none_is
        (subst (λ (l : List MailNames). Selects IsAmongMail IsMailInside l none bases kept) carried_is first))

    enters : Selects IsAmongMail IsMailInside held kept carried entering
    enters = subst (λ (l : List MailNames). Selects IsAmongMail IsMailInside held l carried entering) kept_is second

-- if all held bases lie in those that come, the held ones have these already
pub lying_mail : Nests IsAmongMail IsMailInside → (held carried carried_index bases : List MailNames) → carried_index ≡ carried → bases ≡ held → MailLieIn carried_index bases
    → NarrowsMail held carried held
lying_mail nests held carried carried_index bases carried_is bases_are lie =
    lying_in IsAmongMail IsMailInside nests held carried
    (subst (λ (l : List MailNames). MailLieIn carried l) bases_are (subst (λ (l : List MailNames). MailLieIn l bases) carried_is lie))

-- what is left of a list that is held is what its change leaves
pub as_change : (held carried : List MailNames) (change : Option (List MailNames)) → NarrowsMail held carried (left_of held change)
    → (name : MailText) → PermitsMailIn (changed (Some held) change) name ↔ (PermitsMailIn (Some held) name × HasMail carried name)
as_change held carried None narrows = narrows
as_change held carried (Some list) narrows = narrows

-- a certificate without permitted bases leaves what is permitted as it is
pub left_alone : (old : Option (List MailNames)) (carried : List MailNames) → carried ≡ [] → IsNarrowedMail old carried old
left_alone old carried none name = (λ p. (p, λ some. absurd (some none)), λ both. both.0)

-- one with such leaves what both permit
pub narrowed_to : (old : Option (List MailNames)) (carried : List MailNames) (new : Option (List MailNames)) → carried ≢ []
    → ((name : MailText) → PermitsMailIn new name ↔ (PermitsMailIn old name × HasMail carried name)) → IsNarrowedMail old carried new
narrowed_to old carried new some is name = (λ has. let both = (is name).0 has in (both.0, λ _. both.1), λ both. (is name).1 (both.0, both.1 some))
