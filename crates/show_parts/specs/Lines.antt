-- The lines that a program prints of a head's items.
use Rattle.std.specs.Prelude.{ℕ, ◌-◌, cond, List, [], ◌∷◌, ◌++◌, length, replicate, codes, decimal}
use Rattle.std.specs.List.{flat_map}
use Rattle.std.specs.Char.{encode_utf8}
use Rattle.std.specs.Str.{bytes_eq}
use Rattle.head.specs.declared.items.Edition.{Edition}
use Rattle.head.specs.declared.items.HeadItems.{HeadItems}

-- a number in at least so many digits, with zeros before it
abbrev pub at_least : ℕ → ℕ → List ℕ
at_least width n = replicate (width - length (decimal n)) 48 ++ decimal n

-- bytes, each as the character of its number
abbrev pub characters : List ℕ → List ℕ
characters bytes = flat_map encode_utf8 bytes

-- DD.MM.YYYY HH:MM
abbrev pub edition_text : Edition → List ℕ
edition_text e =
    at_least 2 e.date.day ++ (codes "." ++ (at_least 2 e.date.month ++ (codes "." ++ (at_least 4 e.date.year
    ++ (codes " " ++ (at_least 2 e.hour ++ (codes ":" ++ at_least 2 e.minute)))))))

-- two blanks stand for no language
abbrev pub second_text : List ℕ → List ℕ
second_text language = cond (bytes_eq language (32 ∷ 32 ∷ [])) (codes "none") (characters language)

abbrev pub head_lines : HeadItems → List ℕ
head_lines i =
    codes "carrier " ++ (at_least 4 i.carrier
    ++ (codes "\nkey " ++ (characters i.key
    ++ (codes "\nedition " ++ (edition_text i.edition
    ++ (codes "\nflags " ++ (decimal i.flags
    ++ (codes "\nlanguage " ++ (characters i.language
    ++ (codes "\nsecond language " ++ second_text i.second_language))))))))))
