-- A field is a number if it begins with a digit.
use Rattle.std.proofs.Common.{◌≡◌, sym}
use Rattle.sheets.specs.declared.reader.Field.{Field}
use Rattle.sheets.specs.declared.reader.Field.TheVariants.{Number, Word}
use Rattle.sheets.specs.Numbers.{starts_digit}
use Rattle.sheets.specs.Reading.{text_of, is_number}

pub digit_told : (f : Field) → is_number f ≡ starts_digit (text_of f)
digit_told (Number n) = sym n.digit
digit_told (Word w) = sym w.no_digit
