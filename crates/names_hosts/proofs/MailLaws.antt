-- The laws of mail addresses and of bases on them.
use Rattle.std.proofs.Common.{◌≡◌, ℕ, List, [], ◌∷◌, get_or, refl, sym, ◌∙◌, ap, subst, inl, inr, arith}
use Rattle.names.specs.Dns.{labels, EndsInMore}
use Rattle.names_hosts.specs.Hosts.{HostNames, one_host, hosts_below, IsSameHost, IsAmongHosts}
use Rattle.names_hosts.specs.Mail.{MailText, MailNames, one_mailbox, mail_at, IsSameMailbox, IsAmongMail, IsMailInside}
use Rattle.names_hosts.specs.Laws.{MailInsideIsExact, SharedMailIsNested}
use Rattle.names_hosts.proofs.HostLaws.{hosts_inside_is_exact, shared_hosts_are_nested, a_host}

-- hosts that are the same are among the same
among_same : (x y : List ℕ) (t : HostNames) → IsSameHost x y → IsAmongHosts x t → IsAmongHosts y t
among_same x y (one_host t) e h = sym e ∙ h
among_same x y (hosts_below t) e h = subst (λ (l : List (List ℕ)). EndsInMore l (labels t)) e h

same_mailboxes : (x y z : MailText) → IsSameMailbox x y → IsSameMailbox y z → IsSameMailbox x z
same_mailboxes x y z a b = record { local = a.local ∙ b.local; host = a.host ∙ b.host }

turned : (x y : MailText) → IsSameMailbox x y → IsSameMailbox y x
turned x y a = record { local = sym a.local; host = sym a.host }

sound : (x : MailText) (s t : MailNames) → IsMailInside s t → IsAmongMail x s → IsAmongMail x t
sound x (one_mailbox s) (one_mailbox t) h k = same_mailboxes x s t k h
sound x (one_mailbox s) (mail_at t) h k = among_same s.host x.host t (sym k.host) h
sound x (mail_at s) (one_mailbox t) h k = absurd h
sound x (mail_at s) (mail_at t) h k = (hosts_inside_is_exact s t).0 h x.host k

-- a mail address at a host, and another one
one_at : List ℕ → MailText
one_at host = record { local = 97 ∷ []; host = host }

other_at : List ℕ → MailText
other_at host = record { local = 98 ∷ []; host = host }

two_locals : (host : List ℕ) (t : MailText) → IsSameMailbox (one_at host) t → IsSameMailbox (other_at host) t → ⊥
unfolding one_at other_at
two_locals host t a b =
    let e : 97 ∷ [] ≡ 98 ∷ [] = a.local ∙ sym b.local in
    let n : 97 ≡ 98 = ap (λ (l : List ℕ). get_or l 0 0) e in
    omega (arith, n)

complete : (s t : MailNames) → ((x : MailText) → IsAmongMail x s → IsAmongMail x t) → IsMailInside s t
unfolding one_at other_at
complete (one_mailbox s) (one_mailbox t) all = all s (record { local = refl; host = refl })
complete (one_mailbox s) (mail_at t) all = all s (record { local = refl; host = refl })
complete (mail_at s) (one_mailbox t) all =
    let found = a_host s in
    two_locals found.0 t (all (one_at found.0) found.1) (all (other_at found.0) found.1)
complete (mail_at s) (mail_at t) all = (hosts_inside_is_exact s t).1 (λ x h. all (one_at x) h)

pub mail_inside_is_exact : MailInsideIsExact
mail_inside_is_exact s t = (λ h x k. sound x s t h k, complete s t)

pub shared_mail_is_nested : SharedMailIsNested
shared_mail_is_nested x (one_mailbox s) (one_mailbox t) a b = inl (same_mailboxes s x t (turned x s a) b)
shared_mail_is_nested x (one_mailbox s) (mail_at t) a b = inl (among_same x.host s.host t a.host b)
shared_mail_is_nested x (mail_at s) (one_mailbox t) a b = inr (among_same x.host t.host s b.host a)
shared_mail_is_nested x (mail_at s) (mail_at t) a b = shared_hosts_are_nested x.host s t a b
