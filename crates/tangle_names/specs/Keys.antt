-- The keys of a set of names.
use Rattle.tangle_names.specs.declared.keys.KeyBytes.{KeyBytes}
use Rattle.tangle_names.specs.declared.keys.KeyBytes.TheVariants.{Own, Lent}
use Rattle.tangle_names.specs.Names.{NameText}

-- the text of a key
abbrev pub key_bytes : KeyBytes → NameText
key_bytes (Own bytes) = bytes.items
key_bytes (Lent bytes) = bytes.now
