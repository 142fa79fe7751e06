-- The table of classes has at the index of each byte what the tests say of it.
use Rattle.std.proofs.Common.{◌≡◌, ◌<◌, ℕ, map, get_or, arith}
use Rattle.std.specs.List.{range_with_len}
use Rattle.std.proofs.lemmas.List.FromFn.{get_or-map-range_with_len}
use Rattle.tangle_text.specs.declared.classes.ByteClass.{ByteClass}
use Rattle.tangle_text.specs.Bytes.{is_word_byte, is_sign_byte}
use Rattle.tangle_text.specs.Regions.{is_ordinary}
use Rattle.tangle_text.specs.Runs.{is_plain}

abbrev pub class_of : ℕ → ByteClass
class_of b =
    record { is_word = is_word_byte b; is_ordinary = is_ordinary b; is_plain = is_plain b; is_sign = is_sign_byte b }

pub class-at : (b : ℕ) (default : ByteClass) → b < 256
    → get_or (map class_of (range_with_len 0 256)) b default ≡ class_of b
class-at b default h = get_or-map-range_with_len class_of 0 256 b b default h (omega arith)
