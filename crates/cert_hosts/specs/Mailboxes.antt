-- Values of a certificate that are to be mailboxes, and the mailboxes that they are (RFC 5280, 4.1.2.6 and 4.2.1.6; RFC 9598, 3).
use Rattle.std.specs.Prelude.{◌≡◌, ℕ, true, false, List, ◌∷◌, ◌++◌, [], map, Option, Some, None, option_map, IsTrue, Result, Ok, Err, if◌then◌else◌}
use Rattle.std.specs.Global.{Vec}
use Rattle.asn.specs.Place.{Place, tag, body}
use Rattle.asn.specs.Members.{members}
use Rattle.asn.specs.Outermost.{outermost}
use Rattle.asn.specs.Walk.{◌>>=◌, is_a, required, ended}
use Rattle.names.specs.AttributeValue.{is_text}
use Rattle.names_hosts.specs.declared.mail.MailName.{MailName}
use Rattle.names_hosts.specs.Mail.{MailText, mail_text, IsMailName, mail_of}
use Rattle.cert.specs.declared.fault.CertRule.{CertRule}
use Rattle.cert.specs.declared.fault.CertRule.TheVariants.{ExtensionValue}
use Rattle.cert.specs.Fault.{as_der}
use Rattle.cert_hosts.specs.declared.mailboxes.MailValue as code
use Rattle.cert_hosts.specs.declared.mailboxes.MailValue.TheVariants as V

pub data MailValue : Type 0 where
  -- the value of an emailAddress: its identifier, and its contents
  email_address : ℕ → List ℕ → MailValue
  -- the contents of an rfc822Name
  rfc822_name : List ℕ → MailValue
  -- of an otherName that is an SmtpUTF8Mailbox, the octets behind its type-id
  smtp_utf8 : List ℕ → MailValue

abbrev pub seen_value : code.MailValue → MailValue
seen_value (V.EmailAddress identifier contents) = email_address identifier contents.now
seen_value (V.Rfc822Name contents) = rfc822_name contents.now
seen_value (V.SmtpUtf8 octets) = smtp_utf8 octets.now

-- The octets are the value of such an otherName: [0] EXPLICIT SmtpUTF8Mailbox, and SmtpUTF8Mailbox ::= UTF8String, with this text.
pub record IsUtf8Value (octets text : List ℕ) : Type 0 where
  pub explicit : Place
  pub string : Place
  pub whole : outermost octets ≡ Ok explicit
  pub tagged : tag explicit ≡ 0xA0
  pub alone : (members explicit).values ≡ string ∷ []
  pub utf8 : tag string ≡ 0x0C
  pub contents : text ≡ body string

-- The value is this mailbox. An emailAddress is an IA5String; a UTF8String or a PrintableString is read as well, and no other type (a choice
-- of this profile).
abbrev pub IsMailbox : MailValue → MailText → Type 0
IsMailbox (email_address identifier contents) name = IsTrue (is_text identifier) × IsMailName false contents name
IsMailbox (rfc822_name contents) name = IsMailName false contents name
IsMailbox (smtp_utf8 octets) name = (text : List ℕ) × IsUtf8Value octets text × IsMailName true text name

-- a value is this, or it is none
abbrev pub IsOrNone : {V X : Type 0} → (V → X → Type 0) → V → Option X → Type 0
IsOrNone Is value (Some x) = Is value x
IsOrNone {X = X} Is value None = (x : X) → Is value x → ⊥

-- it is this mailbox, or none of the form that is processed
abbrev pub IsMail : MailValue → Option MailText → Type 0
IsMail value found = IsOrNone IsMailbox value found

-- the mailbox that a value is

unfoldable pub utf8_value : List ℕ → Result Place (CertRule × ℕ)
utf8_value octets = do
  explicit ← as_der (outermost octets)
  tagged ← is_a 0xA0 ExtensionValue explicit
  string ← required 0x0C ExtensionValue (members explicit)
  done ← ended ExtensionValue string.1
  Ok string.0

abbrev pub mail_of_string : Result Place (CertRule × ℕ) → Option MailText
mail_of_string (Ok string) = mail_of true (body string)
mail_of_string (Err fault) = None

abbrev pub mailbox_of : MailValue → Option MailText
mailbox_of (email_address identifier contents) = if is_text identifier then mail_of false contents else None
mailbox_of (rfc822_name contents) = mail_of false contents
mailbox_of (smtp_utf8 octets) = mail_of_string (utf8_value octets)

-- those of several values

abbrev pub seen_mail : Vec (Option MailName) → List (Option MailText)
seen_mail mail = map (option_map mail_text) mail.items

abbrev pub AddsMail : Vec (Option MailName) → Vec (Option MailName) → List MailValue → Type 0
AddsMail old new values = seen_mail new ≡ seen_mail old ++ map mailbox_of values
