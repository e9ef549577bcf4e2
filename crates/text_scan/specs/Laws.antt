-- A law of replies.
use Rattle.std.specs.Prelude.{◌≢◌, ℕ, List, Err}
use Rattle.text_scan.specs.TextReply.{text_reply}
use Rattle.text_scan.specs.declared.fault.ScanFault.TheVariants.{NoMemory}

-- no text and no query want memory by what they are
abbrev pub NeverForMemory : Type 0
NeverForMemory = (sql text : List ℕ) → text_reply sql text ≢ Err NoMemory
