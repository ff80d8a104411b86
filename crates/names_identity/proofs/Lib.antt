mod Positions
mod HostLabels
mod MailboxTexts
mod Wildcards
mod Quantified
