use Rattle.std.proofs.Common.{◌≡◌, List, ℕ, ◌&&◌, [], ◌∷◌, refl, ap, ◌∙◌, rules, arith}
use Rattle.std.specs.Char.{is_ascii_digit}
use Rattle.std.specs.List.{list_all}
use Rattle.std.specs.Str.{all_ascii_digits}
use Rattle.std.proofs.lemmas.Bool.Decides.{nat_tests}
use Rattle.std.proofs.lemmas.Iterator.{YieldsList-from_slice}
use Rattle.std.proofs.lemmas.Iterator.Search.{all_from_yields_List}
use Rattle.text.proofs.token.is_number.Goals as goal

-- every byte is a digit
every : (bs : List ℕ) → list_all is_ascii_digit bs ≡ all_ascii_digits bs
every [] = refl
every (b ∷ bs) = ap (λ t. is_ascii_digit b && t) (every bs)

pub returns : goal.returns
returns c =
    let word = c.args.word.now in
    let all : c.all.result ≡ all_ascii_digits word = all_from_yields_List is_ascii_digit _ _ _ c.all.ensures.ran (YieldsList-from_slice word cc) (λ x b q k. search rules) ∙ every word in
    grind (arith, nat_tests)
