-- A list with headers to try it, as a seed gives both.
use Rattle.std.specs.Prelude.{◌≡◌, ℕ, map}
use Rattle.list_generator.specs.DrawnHeaders.{generated_headers}
use Rattle.list_generator.specs.Generated.{IsGenerated}
use Rattle.list_generator.specs.declared.load.Load.{Load}

-- the list and the headers that the seed gives
pub record IsLoad (seed count : ℕ) (load : Load) : Type 0 where
  pub list : IsGenerated seed count load.list
  pub headers : map (λ h. h.values) load.headers.items ≡ generated_headers seed count
