-- Scaffolding: the words that `clap` is asked, since its `help` takes no option.
use Rattle.std.specs.Prelude.{◌≡◌, ◌⊎◌, List, ◌∷◌, codes}
use Rattle.clap.specs.Words.{Text}

-- Help is asked for by a subcommand.
abbrev pub IsHelp : List Text → Type 0
IsHelp (name ∷ word ∷ words) = word ≡ codes "help"
IsHelp words = ⊥

-- Words are asked as they are, or both ask for help by the subcommand.
abbrev pub AskAlike : List Text → List Text → Type 0
AskAlike words asked = (asked ≡ words) ⊎ (IsHelp words × IsHelp asked)
