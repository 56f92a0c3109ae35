-- What is printed of a moment and of a length of time.
use Rattle.std.specs.Prelude.{ℕ, ◌/◌, ◌%◌, ◌==◌, ◌&&◌, List, [], ◌∷◌, ◌++◌, nat_le, if◌then◌else◌, codes, decimal}

-- the last three digits of a number
abbrev pub three_digits : ℕ → List ℕ
three_digits n = decimal (n / 100 % 10) ++ (decimal (n / 10 % 10) ++ decimal (n % 10))

-- a moment, in seconds since the first, with nine digits behind the point
abbrev pub moment_text : ℕ → List ℕ
moment_text n = decimal (n / 1000000000) ++ (codes "." ++ (three_digits (n / 1000000) ++ (three_digits (n / 1000) ++ (three_digits n ++ codes "s"))))

-- the digits of so many thousandths, as far as one isn't zero, behind a point
abbrev pub fraction_text : ℕ → List ℕ
fraction_text n = if n % 1000 == 0 then [] else (if n % 100 == 0 then codes "." ++ decimal (n / 100 % 10)
    else (if n % 10 == 0 then codes "." ++ (decimal (n / 100 % 10) ++ decimal (n / 10 % 10))
    else codes "." ++ (decimal (n / 100 % 10) ++ (decimal (n / 10 % 10) ++ decimal (n % 10)))))

-- so many thousandths as a number
abbrev pub thousandths_text : ℕ → List ℕ
thousandths_text n = decimal (n / 1000) ++ fraction_text n

-- a microsecond's sign, in UTF-8
abbrev pub micros_text : List ℕ
micros_text = 0xC2 ∷ 0xB5 ∷ codes "s"

-- a length, in the greatest unit of which it has at least one, and that three digits behind the
-- point show whole: seconds, else milliseconds, microseconds or nanoseconds
abbrev pub duration_text : ℕ → List ℕ
duration_text n = if nat_le 1000000000 n && n % 1000000 == 0 then thousandths_text (n / 1000000) ++ codes "s"
    else (if nat_le 1000000 n && n % 1000 == 0 then thousandths_text (n / 1000) ++ codes "ms"
    else (if nat_le 1000 n then thousandths_text n ++ micros_text else decimal n ++ codes "ns"))
