-- Lists of bases on mail addresses, narrowed and joined (RFC 5280, 6.1.4 (g)), and what they say of mail addresses.
use Rattle.std.specs.Prelude.{◌≢◌, ◌↔◌, List, [], Bool, true, false, Option, Contains}
use Rattle.names_hosts.specs.Mail.{MailText, MailNames, IsAmongMail, IsMailInside}
use Rattle.names_hosts.specs.MailLists.{HasMail, HoldsMail}
use Rattle.path_host_constraints.specs.Lists.{Selects, TakesIf, PermitsIn, PermitsFoundIn, PermitsAllIn, HasFound, HasNone}

-- the base is inside one of the first bases, and in none of the others
abbrev pub Enters : List MailNames → List MailNames → MailNames → Bool → Type 0
Enters within except base true = HoldsMail within base
Enters within except base false = HoldsMail within base → HoldsMail except base

abbrev pub TakesMailIf : List MailNames → List MailNames → MailNames → List MailNames → List MailNames → Type 0
TakesMailIf within except base old new = TakesIf IsMailInside within except base old new

abbrev pub SelectsMail : List MailNames → List MailNames → List MailNames → List MailNames → Type 0
SelectsMail within except list selected = Selects IsAmongMail IsMailInside within except list selected

-- each base of a list is inside one of these
abbrev pub MailLieIn : List MailNames → List MailNames → Type 0
MailLieIn within bases = (base : MailNames) → Contains bases base → HoldsMail within base

-- a list has just the mail addresses that both lists have
abbrev pub NarrowsMail : List MailNames → List MailNames → List MailNames → Type 0
NarrowsMail held carried list = (name : MailText) → HasMail list name ↔ (HasMail held name × HasMail carried name)

abbrev pub PermitsMailIn : Option (List MailNames) → MailText → Type 0
PermitsMailIn list name = PermitsIn IsAmongMail list name

-- of the mail addresses each that is a mailbox
abbrev pub PermitsFound : Option (List MailNames) → Option MailText → Type 0
PermitsFound list found = PermitsFoundIn IsAmongMail list found

abbrev pub PermitsAllMail : Option (List MailNames) → List (Option MailText) → Type 0
PermitsAllMail list names = PermitsAllIn IsAmongMail list names

-- behind one more certificate just the mail addresses are permitted that were before, and that it permits
abbrev pub IsNarrowedMail : Option (List MailNames) → List MailNames → Option (List MailNames) → Type 0
IsNarrowedMail old carried new =
    (name : MailText) → PermitsMailIn new name ↔ (PermitsMailIn old name × (carried ≢ [] → HasMail carried name))

abbrev pub ExcludesFound : List MailNames → Option MailText → Type 0
ExcludesFound bases found = HasFound IsAmongMail bases found

abbrev pub ExcludesNoMail : List MailNames → List (Option MailText) → Type 0
ExcludesNoMail bases names = HasNone IsAmongMail bases names
