-- The bytes of a text that is shared, or of the empty text where nothing is.
use Rattle.std.specs.Prelude.{ℕ, List, [], Option, Some, None, string_bytes}
use Rattle.std.specs.Rc.{rc_value}
use Rattle.std.specs.declared.rc.Rc.{Rc}
use Rattle.std.specs.declared.string.String.{String}
use Rattle.std.specs.declared.alloc.Global.{Global}

-- the bytes of a text that is shared
abbrev pub shared_bytes : Option (Rc (String Global) Global) → List ℕ
shared_bytes None = []
shared_bytes (Some text) = string_bytes (rc_value text)
