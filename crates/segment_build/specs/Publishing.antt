-- How files are published.
use Rattle.std.specs.Prelude.{ℕ, List, codes}

-- the part that each file is written as before it is published
abbrev pub incoming : List ℕ
incoming = codes "incoming"
