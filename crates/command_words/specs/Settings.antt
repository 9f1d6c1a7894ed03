-- What options come to.
use Rattle.std.specs.Prelude.{ℕ, Option, option_map}
use Rattle.command_words.specs.declared.settings.Settings as code_settings
use Rattle.command_words.specs.declared.sessions.By as code_by
use Rattle.command_words.specs.declared.sessions.By.TheVariants as bys
use Rattle.command_words.specs.declared.sessions.Making as code_making
use Rattle.command_words.specs.declared.sessions.Making.TheVariants as makings
use Rattle.command_words.specs.declared.sessions.SessionTerms as code_terms
use Rattle.command_words.specs.declared.sizes.Sizes as code_sizes
use Rattle.command_words.specs.declared.swap.Swap as code_swap
use Rattle.command_words.specs.declared.swap.Swap.TheVariants as swaps
use Rattle.command_words.specs.declared.wanted.Wanted as code_wanted
use Rattle.command_words.specs.declared.wanted.Wanted.TheVariants as orders
use Rattle.command_words.specs.Orders.{Wanted, Best, In}
use Rattle.command_words.specs.Sessions.{By, Compiling, CompiledIn, Making, SessionTerms, Shortened, Shortening}
use Rattle.command_words.specs.Sizes.{Sizes}
use Rattle.command_words.specs.Swaps.{Swap, Whole, InPlace}

pub record Settings : Type 0 where
  pub sizes : Sizes
  pub slots : ℕ
  pub order : Option Wanted
  pub swap : Swap
  pub by : By

-- the same of the code
abbrev pub sizes_of : code_sizes.Sizes → Sizes
sizes_of sizes = record { limit = sizes.limit.count; slot = sizes.slot.bits }

abbrev pub wanted_seen : code_wanted.Wanted → Wanted
wanted_seen orders.Best = Best
wanted_seen (orders.In order) = In order

abbrev pub swap_seen : code_swap.Swap → Swap
swap_seen swaps.Whole = Whole
swap_seen swaps.InPlace = InPlace

abbrev pub by_seen : code_by.By → By
by_seen bys.Compiling = Compiling
by_seen bys.Shortening = Shortening

abbrev pub making_seen : code_making.Making → Making
making_seen (makings.CompiledIn order) = CompiledIn order
making_seen makings.Shortened = Shortened

abbrev pub terms_seen : code_terms.SessionTerms → SessionTerms
terms_seen terms = record { slots = terms.slots.count; sizes = sizes_of terms.sizes; making = making_seen terms.making; swap = swap_seen terms.swap }

abbrev pub settings_seen : code_settings.Settings → Settings
settings_seen settings = record { sizes = sizes_of settings.sizes; slots = settings.slots.count; order = option_map wanted_seen settings.order; swap = swap_seen settings.swap; by = by_seen settings.by }
