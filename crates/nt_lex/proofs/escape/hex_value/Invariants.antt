use Rattle.std.proofs.Common.{◌≡◌, ◌^◌, ◌<◌, drop}
use Rattle.std.specs.List.{list_all}
use Rattle.std.specs.Str.Parse.{digits_value, digits_value_after}
use Rattle.nt_lex.specs.Written.{is_hex}
use Rattle.nt_lex.proofs.escape.hex_value.Given as goal

abbrev pub invariant-digits : goal.invariant-digits
invariant-digits l =
    (l.value < 16 ^ l.byte-index) × (digits_value_after 16 l.value (drop l.byte-index l.digits) ≡ digits_value 16 l.digits)
    × (list_all is_hex (drop l.byte-index l.digits) ≡ list_all is_hex l.digits)
