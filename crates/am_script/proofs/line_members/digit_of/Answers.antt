use Rattle.std.proofs.Common.{◌≡◌, ◌∙◌, ◌+◌, ◌≤◌, ◌∷◌, [], ap, get_or, length, sym, arith, rules}
use Rattle.am_script.proofs.LineMembers.{digit_read, one_byte}
use Rattle.am_script.proofs.line_members.digit_of.Goals as goal

pub returns-in-len1 : goal.returns-in-len1
returns-in-len1 c =
    let bytes = c.as_bytes.result.now in
    let byte = get_or bytes 0 0 in
    let one : length bytes ≡ 1 = omega (arith, c.in-len1.len_at_least, c.in-len1.len_below) in
    let low : 48 ≤ byte = search rules in
    let high : byte ≤ 57 = search rules in
    let digit : 48 + c.from.result ≡ byte = omega (arith, c.from.ensures, low) in
    digit_read c.args.text.now c.from.result (omega (arith, c.from.ensures, high))
    (sym c.as_bytes.ensures.value ∙ one_byte bytes one ∙ ap (λ n. n ∷ []) (sym digit))
