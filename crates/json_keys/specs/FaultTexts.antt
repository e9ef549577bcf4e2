-- The names of what is wrong at a key, as note lines have them.
use Rattle.std.specs.Prelude.{ℕ, List, codes}
use Rattle.json_keys.specs.declared.fault.KeyKind.{KeyKind}
use Rattle.json_keys.specs.declared.fault.KeyKind.TheVariants as key

-- the name of what is wrong at a key
abbrev pub key_text : KeyKind → List ℕ
key_text key.NotJson = codes "NotJson"
key_text key.MissingKey = codes "MissingKey"
key_text key.WrongKind = codes "WrongKind"
key_text key.BadName = codes "BadName"
key_text key.UnknownType = codes "UnknownType"
key_text key.Unsupported = codes "Unsupported"
key_text key.DuplicateColumn = codes "DuplicateColumn"
key_text key.UnknownColumn = codes "UnknownColumn"
key_text key.BadPair = codes "BadPair"
key_text key.TooMany = codes "TooMany"
