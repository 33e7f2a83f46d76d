-- The first part of a duration's text. Only code of this crate cites it.
use Rattle.std.specs.Prelude.{ℕ, Bool, not, if◌then◌else◌, List, codes, take, drop, Option, Some, None}
use Rattle.std.specs.List.{prefix_len}
use Rattle.std.specs.Char.{is_ascii_digit}
use Rattle.am_labels.specs.Texts.{same_text}
use Rattle.am_config.specs.declared.duration.Unit.{Unit}
use Rattle.am_config.specs.declared.duration.Unit.TheVariants.{Year, Week, Day, Hour, Minute, Second}
use Rattle.am_config.specs.declared.duration.Unit.TheVariants.{Millisecond}

-- whether a byte is no decimal digit
abbrev pub is_no_digit : ℕ → Bool
is_no_digit byte = not (is_ascii_digit byte)

-- the digits that a text begins with
abbrev pub digits_of : List ℕ → List ℕ
digits_of text = take (prefix_len is_ascii_digit text) text

-- what follows these digits
abbrev pub after_digits : List ℕ → List ℕ
after_digits text = drop (prefix_len is_ascii_digit text) text

-- what follows them, up to the next digit
abbrev pub symbol_in : List ℕ → List ℕ
symbol_in text = take (prefix_len is_no_digit (after_digits text)) (after_digits text)

-- the text from that digit on
abbrev pub rest_of : List ℕ → List ℕ
rest_of text = drop (prefix_len is_no_digit (after_digits text)) (after_digits text)

-- the unit that is written so
abbrev pub unit_of : List ℕ → Option Unit
unit_of symbol =
    if same_text symbol (codes "y") then Some Year
    else (if same_text symbol (codes "w") then Some Week
    else (if same_text symbol (codes "d") then Some Day
    else (if same_text symbol (codes "h") then Some Hour
    else (if same_text symbol (codes "m") then Some Minute
    else (if same_text symbol (codes "s") then Some Second
    else (if same_text symbol (codes "ms") then Some Millisecond
    else None))))))
