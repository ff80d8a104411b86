-- Which values of a certificate are to be mailboxes, and which are URIs: the emailAddresses of its subject (RFC 5280, 4.1.2.6), and of its
-- subjectAltName (4.2.1.6) each rfc822Name [1], each otherName [0] that is an SmtpUTF8Mailbox (RFC 9598, 3), and each
-- uniformResourceIdentifier [6].
use Rattle.std.specs.Prelude.{◌≡◌, ◌==◌, ℕ, Bool, List, [], ◌∷◌, ◌++◌, take, drop, flat_map, filter_map, map, Option, Some, None, option_map, if◌then◌else◌}
use Rattle.std.specs.Borrow.{Bor}
use Rattle.std.specs.Global.{Vec}
use Rattle.std.specs.Option.{option_copied}
use Rattle.std.specs.Str.{bytes_eq}
use Rattle.asn.specs.Identifier.{is_constructed}
use Rattle.asn.specs.Place.{Place, text_at, tag, body}
use Rattle.asn.specs.Members.{members}
use Rattle.names.specs.GeneralLayout.{GeneralName, other_name}
use Rattle.names_hosts.specs.Uri.{IsHostOfUri, uri_host}
use Rattle.cert.specs.Certificate.{Certificate}
use Rattle.cert_hosts.specs.Mailboxes.{MailValue, email_address, rfc822_name, smtp_utf8, IsOrNone}

-- the values inside a value; a primitive one has none
abbrev pub inner_of : Bool → Place → List Place
inner_of constructed value = if constructed then (members value).values else []

abbrev pub inner : Place → List Place
inner value = inner_of (is_constructed (tag value)) value

-- id-emailAddress: 1.2.840.113549.1.9.1
abbrev pub email_type : List ℕ
email_type = 0x2A ∷ 0x86 ∷ 0x48 ∷ 0x86 ∷ 0xF7 ∷ 0x0D ∷ 0x01 ∷ 0x09 ∷ 0x01 ∷ []

-- AttributeTypeAndValue ::= SEQUENCE { type OBJECT IDENTIFIER, value ANY }: the value, if it is that of an emailAddress
abbrev pub email_in : List Place → List MailValue
email_in [] = []
email_in (type ∷ []) = []
email_in (type ∷ value ∷ others) = if bytes_eq (body type) email_type then email_address (tag value) (body value) ∷ [] else []

abbrev pub email_of : Place → List MailValue
email_of attribute = email_in (inner attribute)

-- RelativeDistinguishedName ::= SET OF AttributeTypeAndValue
abbrev pub emails_of_rdn : Place → List MailValue
emails_of_rdn rdn = flat_map email_of (inner rdn)

-- those of the name that has this encoding
unfoldable pub emails_of : List ℕ → List MailValue
emails_of octets = flat_map emails_of_rdn (members (text_at octets 0)).values

-- id-on-SmtpUTF8Mailbox: OBJECT IDENTIFIER 1.3.6.1.5.5.7.8.9
abbrev pub smtp_utf8_type : List ℕ
smtp_utf8_type = 0x06 ∷ 0x08 ∷ 0x2B ∷ 0x06 ∷ 0x01 ∷ 0x05 ∷ 0x05 ∷ 0x07 ∷ 0x08 ∷ 0x09 ∷ []

-- OtherName ::= SEQUENCE { type-id OBJECT IDENTIFIER, value [0] EXPLICIT ANY DEFINED BY type-id }: what stands behind this type-id
abbrev pub behind_type : List ℕ → Option (List ℕ)
behind_type contents = if bytes_eq (take 10 contents) smtp_utf8_type then Some (drop 10 contents) else None

abbrev pub mail_of_form : ℕ → List ℕ → Option MailValue
mail_of_form number contents =
    if number == 1 then Some (rfc822_name contents) else (if number == 0 then option_map smtp_utf8 (behind_type contents) else None)

abbrev pub mail_named : GeneralName → Option MailValue
mail_named (other_name number contents) = mail_of_form number contents
mail_named _ = None

-- the text of a name of one form
abbrev pub name_text : ℕ → GeneralName → Option (List ℕ)
name_text form (other_name number text) = if number == form then Some text else None
name_text form _ = None

abbrev pub mail_values : Certificate → List MailValue
mail_values c = emails_of c.subject.octets ++ filter_map mail_named c.extensions.alternative_names

abbrev pub uris : Certificate → List (List ℕ)
uris c = filter_map (name_text 6) c.extensions.alternative_names

-- the URI has this host, or it has none that is a fully qualified DNS name
abbrev pub IsUriOf : List ℕ → Option (List ℕ) → Type 0
IsUriOf text found = IsOrNone IsHostOfUri text found

-- the hosts of several
abbrev pub seen_found : Vec (Option (Bor (List ℕ))) → List (Option (List ℕ))
seen_found hosts = map option_copied hosts.items

abbrev pub AddsHosts : Vec (Option (Bor (List ℕ))) → Vec (Option (Bor (List ℕ))) → List (List ℕ) → Type 0
AddsHosts old new uris = seen_found new ≡ seen_found old ++ map uri_host uris
