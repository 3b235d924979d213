-- The number of a cell, or none, as one number: this project's own.
use Rattle.std.specs.Prelude.{ℕ, Bool, true, false, Option, Some, None, if◌then◌else◌, ◌==◌, ◌≡◌, ◌-◌, ◌^◌, unwrap_or, refl}
use Rattle.std.proofs.Common.{sym, ap}
use Rattle.std.proofs.lemmas.Bool.{eqb-true}
use Rattle.list_pool.specs.declared.optional_cell.OptionalCell.TheInside.{Inside}

-- the cell that a stored number stands for: the last number of four bytes stands for none
abbrev pub cell_of : ℕ → Option ℕ
cell_of number = (if number == 2 ^ 32 - 1 then None else Some number)

-- the number that is stored for a cell, or for none
abbrev pub number_of : Option ℕ → ℕ
number_of cell = unwrap_or cell (2 ^ 32 - 1)

-- the stored number follows from what it stands for
pub number_again : (o : Inside) → let r : Inside = record { number = number_of (cell_of o.number) } in r ≡ o
number_again o = ap (λ n. let r : Inside = record { number = n } in r) (again (o.number == 2 ^ 32 - 1) o.number (2 ^ 32 - 1) (eqb-true o.number (2 ^ 32 - 1)))
  where
    again : (same : Bool) (number none : ℕ) → (same ≡ true → number ≡ none) → unwrap_or (if same then None else Some number) none ≡ number
    again true number none h = sym (h refl)
    again false number none h = refl
