-- The mailbox that a value is, and the host of a URI, are found just if there is one.
use Rattle.std.proofs.Common.{◌≡◌, ◌↔◌, ℕ, Bool, true, false, List, [], ◌∷◌, map, Option, None, Some, Result, Ok, Err, if◌then◌else◌, refl, sym, ap, ap₂, subst, ◌∙◌}
use Rattle.std.specs.Borrow.{Bor}
use Rattle.std.specs.Prelude.{IsTrue, IfSome, option_copied}
use Rattle.std.specs.List.{AllZip}
use Rattle.asn.specs.Place.{Place, body}
use Rattle.asn.specs.Members.{Members, members}
use Rattle.asn.specs.Rule.{Rule}
use Rattle.asn.specs.Outermost.{outermost}
use Rattle.asn.specs.Walk.{◌>>=◌}
use Rattle.asn.proofs.Laws.{bind_ok, ok_is, is_a_ok, is_a_again, required_ok, required_again, ended_ok, ended_again}
use Rattle.names.specs.AttributeValue.{is_text}
use Rattle.names_hosts.specs.Mail.{MailText, IsMailName, mail_of}
use Rattle.names_hosts.specs.Uri.{IsHostOfUri, uri_host}
use Rattle.names_hosts.proofs.Laws.{mail_name_is_exact, uri_host_is_exact}
use Rattle.cert.specs.declared.fault.CertRule.{CertRule}
use Rattle.cert.specs.declared.fault.CertRule.TheVariants.{ExtensionValue}
use Rattle.cert.specs.Fault.{as_der}
use Rattle.cert_hosts.specs.Mailboxes.{MailValue, email_address, rfc822_name, smtp_utf8, IsUtf8Value, IsMailbox, IsOrNone, IsMail, utf8_value, mail_of_string, mailbox_of}
use Rattle.cert_hosts.specs.OwnNames.{IsUriOf}

none_some : {A : Type 0} (x : A) → None ≡ Some x → ⊥
none_some x e = cc

der_ok : (r : Result Place (Rule × ℕ)) (value : Place) → as_der r ≡ Ok value → r ≡ Ok value
der_ok (Ok other) value e = ap (λ (v : Place). Ok v) (ok_is {E = CertRule × ℕ} other value e)
der_ok (Err fault) value e = absurd cc

-- [0] EXPLICIT UTF8String

utf8_is : (octets : List ℕ) (string : Place) → utf8_value octets ≡ Ok string → IsUtf8Value octets (body string)
unfolding utf8_value
utf8_is octets string e =
    let explicit = bind_ok (as_der (outermost octets)) _ string e in
    let tagged = bind_ok _ _ string explicit.2 in
    let found = bind_ok _ _ string tagged.2 in
    let done = bind_ok _ _ string found.2 in
    let first = required_ok _ _ _ _ found.1 in
    subst (λ (s : Place). IsUtf8Value octets (body s)) (ok_is {E = CertRule × ℕ} found.0.0 string done.2) record {
      explicit = explicit.0;
      string = found.0.0;
      whole = der_ok (outermost octets) explicit.0 explicit.1;
      tagged = is_a_ok _ _ _ _ tagged.1;
      alone = first.values ∙ ap (◌∷◌ found.0.0) (ended_ok _ _ _ done.1);
      utf8 = first.tag_is;
      contents = refl;
    }

is_utf8 : (octets text : List ℕ) (is : IsUtf8Value octets text) → utf8_value octets ≡ Ok is.string
unfolding utf8_value
is_utf8 octets text is =
    let left : Members = record { values = []; end = (members is.explicit).end } in
    rw (is.whole, is_a_again 0xA0 ExtensionValue is.explicit is.tagged, required_again 0x0C ExtensionValue (members is.explicit) is.string [] is.alone is.utf8, ended_again ExtensionValue left refl) refl

utf8_exact : (octets : List ℕ) (name : MailText) → (mailbox_of (smtp_utf8 octets) ≡ Some name) ↔ IsMailbox (smtp_utf8 octets) name
utf8_exact octets name = (by (utf8_value octets) refl, back)
  where
    by : (found : Result Place (CertRule × ℕ)) → utf8_value octets ≡ found → mail_of_string found ≡ Some name → IsMailbox (smtp_utf8 octets) name
    by (Ok string) e m = (body string, utf8_is octets string e, (mail_name_is_exact true (body string) name).0 m)
    by (Err fault) e m = absurd (none_some name m)

    back : IsMailbox (smtp_utf8 octets) name → mail_of_string (utf8_value octets) ≡ Some name
    back (text, is, m) =
        rw (is_utf8 octets text is)
        ((mail_name_is_exact true (body is.string) name).1 (subst (λ (t : List ℕ). IsMailName true t name) is.contents m))

email_exact : (contents : List ℕ) (name : MailText) (text : Bool)
    → ((if text then mail_of false contents else None) ≡ Some name) ↔ (IsTrue text × IsMailName false contents name)
email_exact contents name true = (λ e. (refl, (mail_name_is_exact false contents name).0 e), λ is. (mail_name_is_exact false contents name).1 is.1)
email_exact contents name false = (λ e. absurd (none_some name e), λ is. let never = is.0 in absurd cc)

pub mailbox_is_exact : (value : MailValue) (name : MailText) → (mailbox_of value ≡ Some name) ↔ IsMailbox value name
mailbox_is_exact (email_address identifier contents) name = email_exact contents name (is_text identifier)
mailbox_is_exact (rfc822_name contents) name = mail_name_is_exact false contents name
mailbox_is_exact (smtp_utf8 octets) name = utf8_exact octets name

-- what is found of each value is what it is, or that it is none
module _ {V X : Type 0} (find : V → Option X) (Is : V → X → Type 0) (exact : (value : V) (x : X) → (find value ≡ Some x) ↔ Is value x) where
  is_found : (value : V) → IsOrNone Is value (find value)
  is_found value = by (find value) refl
    where
      by : (found : Option X) → find value ≡ found → IsOrNone Is value found
      by (Some x) e = (exact value x).0 e
      by None e = λ x is. none_some x (sym e ∙ (exact value x).1 is)

  finds : (value : V) (found : Option X) → IsOrNone Is value found → find value ≡ found
  finds value (Some x) is = (exact value x).1 is
  finds value None is = by (find value) refl
    where
      by : (found : Option X) → find value ≡ found → found ≡ None
      by (Some x) e = absurd (is x ((exact value x).0 e))
      by None e = refl

  all_found : (values : List V) → AllZip (IsOrNone Is) values (map find values)
  all_found [] = tt
  all_found (value ∷ values) = (is_found value, all_found values)

  all_are : (values : List V) (found : List (Option X)) → AllZip (IsOrNone Is) values found → map find values ≡ found
  all_are [] [] zip = refl
  all_are [] (x ∷ found) zip = absurd zip
  all_are (value ∷ values) [] zip = absurd zip
  all_are (value ∷ values) (x ∷ found) zip = ap₂ (λ (o : Option X) (os : List (Option X)). o ∷ os) (finds value x zip.0) (all_are values found zip.1)

pub mail_found : (values : List MailValue) → AllZip IsMail values (map mailbox_of values)
mail_found = all_found mailbox_of IsMailbox mailbox_is_exact

pub mail_is : (values : List MailValue) (found : List (Option MailText)) → AllZip IsMail values found → map mailbox_of values ≡ found
mail_is = all_are mailbox_of IsMailbox mailbox_is_exact

pub hosts_found : (uris : List (List ℕ)) → AllZip IsUriOf uris (map uri_host uris)
hosts_found = all_found uri_host IsHostOfUri uri_host_is_exact

pub hosts_are : (uris : List (List ℕ)) (found : List (Option (List ℕ))) → AllZip IsUriOf uris found → map uri_host uris ≡ found
hosts_are = all_are uri_host IsHostOfUri uri_host_is_exact

-- what the code found of a text is the host of the URI
pub host_is : (text : List ℕ) (found : Option (Bor (List ℕ))) → IfSome found (λ host. IsHostOfUri text host.now)
    → ((host : List ℕ) → IsHostOfUri text host → option_copied found ≡ Some host) → option_copied found ≡ uri_host text
host_is text (Some host) reads accepts = sym ((uri_host_is_exact text host.now).1 reads)
host_is text None reads accepts = by (uri_host text) refl
  where
    by : (found : Option (List ℕ)) → uri_host text ≡ found → None ≡ found
    by (Some host) e = accepts host ((uri_host_is_exact text host).0 e)
    by None e = refl
