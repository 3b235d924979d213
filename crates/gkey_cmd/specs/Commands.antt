-- The commands, and the words that ask for them (this project's own).
use Rattle.std.specs.Prelude.{List, [], ◌∷◌, ℕ, zero, suc, Bool, false, ◌<◌, ◌≤◌, Option, Some, None, option_map, is_some, ◌&&◌, codes, bytes_eq, drop, if◌then◌else◌, ◌≡◌, ⊤}
use Rattle.std.specs.Fmt.{decimal}
use Rattle.gkey_cmd.specs.declared.file.File.{File}
use Rattle.gkey_cmd.specs.declared.file.File.TheVariants.{Graph, More, Keys, Proof}
use Rattle.gkey_cmd.specs.declared.words.Command.{Command}
use Rattle.gkey_cmd.specs.declared.words.Command.TheVariants.{Match, Prove, Check, Convert, Demo, Merge, Why, Grow, Help, Version}

-- a command with the names of its files and the words for two entities, or with the number of a demo
pub data Wanted : Type 0 where
  Matching : (graph keys : List ℕ) → Wanted
  Proving : (graph keys : List ℕ) → Wanted
  Checking : (graph keys proof : List ℕ) → Wanted
  Converting : (proof : List ℕ) → Wanted
  Demonstrating : (n : ℕ) → Wanted
  Merging : (graph keys : List ℕ) → Wanted
  Explaining : (graph keys first second : List ℕ) → Wanted
  Growing : (graph more keys : List ℕ) → Wanted
  Helping : Wanted
  TellingVersion : Wanted

-- the number from 1 to the most that a word is in decimal, without sign and without leading zero
unfoldable pub number_to : (most : ℕ) (word : List ℕ) → Option ℕ
number_to zero word = None
number_to (suc n) word = if bytes_eq (decimal (suc n)) word then Some (suc n) else number_to n word

-- a command with a chase, if the word is the name of one
abbrev pub chase_of : (command graph keys : List ℕ) → Option Wanted
chase_of command graph keys =
    if bytes_eq command (codes "match") then Some (Matching graph keys)
    else if bytes_eq command (codes "prove") then Some (Proving graph keys)
    else if bytes_eq command (codes "merge") then Some (Merging graph keys)
    else None

-- the words are an option for workers and a number of them
abbrev pub are_workers : (option workers : List ℕ) → Bool
are_workers option workers = bytes_eq option (codes "--workers") && is_some (number_to 64 workers)

-- the table of the accepted words: `match GRAPH KEYS` and `match --workers N GRAPH KEYS`, with `prove` and `merge` in the same
-- two ways, `check GRAPH KEYS PROOF`, `convert PROOF`, `demo N`, `why GRAPH KEYS A B` and `why --workers N GRAPH KEYS A B`,
-- `grow GRAPH MORE KEYS` and `grow --workers N GRAPH MORE KEYS`, and `--help` and `--version`, each alone
abbrev pub plainly_wanted : List (List ℕ) → Option Wanted
plainly_wanted (command ∷ []) =
    if bytes_eq command (codes "--help") then Some Helping
    else if bytes_eq command (codes "--version") then Some TellingVersion
    else None
plainly_wanted (command ∷ argument ∷ []) =
    if bytes_eq command (codes "convert") then Some (Converting argument)
    else if bytes_eq command (codes "demo") then option_map Demonstrating (number_to 100000 argument)
    else None
plainly_wanted (command ∷ graph ∷ keys ∷ []) = chase_of command graph keys
plainly_wanted (command ∷ a ∷ b ∷ c ∷ []) =
    if bytes_eq command (codes "check") then Some (Checking a b c)
    else if bytes_eq command (codes "grow") then Some (Growing a b c)
    else None
plainly_wanted (command ∷ a ∷ b ∷ c ∷ d ∷ []) =
    if bytes_eq command (codes "why") then Some (Explaining a b c d)
    else if are_workers a b then chase_of command c d
    else None
plainly_wanted (command ∷ option ∷ workers ∷ graph ∷ more ∷ keys ∷ []) =
    if bytes_eq command (codes "grow") && are_workers option workers then Some (Growing graph more keys) else None
plainly_wanted (command ∷ option ∷ workers ∷ graph ∷ keys ∷ first ∷ second ∷ []) =
    if bytes_eq command (codes "why") && are_workers option workers then Some (Explaining graph keys first second) else None
plainly_wanted words = None

-- the words begin with `--large`
abbrev pub are_large : List (List ℕ) → Bool
are_large [] = false
are_large (word ∷ words) = bytes_eq word (codes "--large")

-- the words without a `--large` that they begin with
abbrev pub command_words : List (List ℕ) → List (List ℕ)
command_words words = if are_large words then drop 1 words else words

-- a command that goes by files that its words name
abbrev pub by_named_files : Option Wanted → Option Wanted
by_named_files None = None
by_named_files (Some (Matching graph keys)) = Some (Matching graph keys)
by_named_files (Some (Proving graph keys)) = Some (Proving graph keys)
by_named_files (Some (Checking graph keys proof)) = Some (Checking graph keys proof)
by_named_files (Some (Converting proof)) = Some (Converting proof)
by_named_files (Some (Demonstrating n)) = None
by_named_files (Some (Merging graph keys)) = Some (Merging graph keys)
by_named_files (Some (Explaining graph keys first second)) = Some (Explaining graph keys first second)
by_named_files (Some (Growing graph more keys)) = Some (Growing graph more keys)
by_named_files (Some Helping) = None
by_named_files (Some TellingVersion) = None

-- the accepted words: those of the table, and `--large` before those of a command that goes by files that they name
abbrev pub wanted : List (List ℕ) → Option Wanted
wanted words = if are_large words then by_named_files (plainly_wanted (command_words words)) else plainly_wanted words

-- the names that a demo's own two texts go by
abbrev pub demo_graph_name : List ℕ
demo_graph_name = codes "graph"

abbrev pub demo_keys_name : List ℕ
demo_keys_name = codes "keys"

-- the files of a command with their names, in the order in which they are read
abbrev pub files_of : Wanted → List (File × List ℕ)
files_of (Matching graph keys) = (Graph, graph) ∷ (Keys, keys) ∷ []
files_of (Proving graph keys) = (Graph, graph) ∷ (Keys, keys) ∷ []
files_of (Checking graph keys proof) = (Graph, graph) ∷ (Keys, keys) ∷ (Proof, proof) ∷ []
files_of (Converting proof) = (Proof, proof) ∷ []
files_of (Demonstrating n) = (Graph, demo_graph_name) ∷ (Keys, demo_keys_name) ∷ []
files_of (Merging graph keys) = (Graph, graph) ∷ (Keys, keys) ∷ []
files_of (Explaining graph keys first second) = (Graph, graph) ∷ (Keys, keys) ∷ []
files_of (Growing graph more keys) = (Graph, graph) ∷ (More, more) ∷ (Keys, keys) ∷ []
files_of Helping = []
files_of TellingVersion = []

-- the words ask the shelf for nothing: a demo goes by its own texts, help and version go by no file, and with no command
-- nothing is read
abbrev pub AsksNoFiles : Option Wanted → Type 0
AsksNoFiles None = ⊤
AsksNoFiles (Some (Matching graph keys)) = ⊥
AsksNoFiles (Some (Proving graph keys)) = ⊥
AsksNoFiles (Some (Checking graph keys proof)) = ⊥
AsksNoFiles (Some (Converting proof)) = ⊥
AsksNoFiles (Some (Demonstrating n)) = ⊤
AsksNoFiles (Some (Merging graph keys)) = ⊥
AsksNoFiles (Some (Explaining graph keys first second)) = ⊥
AsksNoFiles (Some (Growing graph more keys)) = ⊥
AsksNoFiles (Some Helping) = ⊤
AsksNoFiles (Some TellingVersion) = ⊤

-- how many workers the words of a chase ask for: 4 where they name none
abbrev pub workers_of : List (List ℕ) → Option ℕ
workers_of (command ∷ a ∷ b ∷ c ∷ d ∷ []) = if bytes_eq command (codes "why") then Some 4 else number_to 64 b
workers_of (command ∷ option ∷ workers ∷ graph ∷ more ∷ keys ∷ []) = number_to 64 workers
workers_of (command ∷ option ∷ workers ∷ graph ∷ keys ∷ first ∷ second ∷ []) = number_to 64 workers
workers_of words = Some 4

-- this command is asked for, with so many workers, of which there are 1 to 64
pub record IsChaseCommand (asked : Option Wanted) (named : Option ℕ) (command : Wanted) (workers : ℕ) : Type 0 where
  pub asked_for : asked ≡ Some command
  pub named_so : named ≡ Some workers
  pub some : 0 < workers
  pub few : workers ≤ 64

-- it is this command with a chase, and has so many workers
abbrev pub IsChaseOf : Option Wanted → (workers : ℕ) → Command → Type 0
IsChaseOf asked workers (Match w files) = (asked ≡ Some (Matching files.graph.now files.keys.now)) × (w ≡ workers)
IsChaseOf asked workers (Prove w files) = (asked ≡ Some (Proving files.graph.now files.keys.now)) × (w ≡ workers)
IsChaseOf asked workers (Check files) = ⊥
IsChaseOf asked workers (Convert proof) = ⊥
IsChaseOf asked workers (Demo n) = ⊥
IsChaseOf asked workers (Merge w files) = (asked ≡ Some (Merging files.graph.now files.keys.now)) × (w ≡ workers)
IsChaseOf asked workers (Why w words) = ⊥
IsChaseOf asked workers (Grow w files) = ⊥
IsChaseOf asked workers Help = ⊥
IsChaseOf asked workers Version = ⊥

-- it is the command that is asked for, with so many workers if it is a chase
abbrev pub IsAsked : Option Wanted → (workers : Option ℕ) → Command → Type 0
IsAsked asked workers (Match w files) = IsChaseCommand asked workers (Matching files.graph.now files.keys.now) w
IsAsked asked workers (Prove w files) = IsChaseCommand asked workers (Proving files.graph.now files.keys.now) w
IsAsked asked workers (Check files) = asked ≡ Some (Checking files.graph.now files.keys.now files.proof.now)
IsAsked asked workers (Convert proof) = asked ≡ Some (Converting proof.now)
IsAsked asked workers (Demo n) = (asked ≡ Some (Demonstrating n)) × (0 < n) × (n ≤ 100000)
IsAsked asked workers (Merge w files) = IsChaseCommand asked workers (Merging files.graph.now files.keys.now) w
IsAsked asked workers (Why w words) = IsChaseCommand asked workers (Explaining words.files.graph.now words.files.keys.now words.first.now words.second.now) w
IsAsked asked workers (Grow w files) = IsChaseCommand asked workers (Growing files.graph.now files.more.now files.keys.now) w
IsAsked asked workers Help = asked ≡ Some Helping
IsAsked asked workers Version = asked ≡ Some TellingVersion

-- the command that the table has for these words
abbrev pub IsPlainCommand : List (List ℕ) → Command → Type 0
IsPlainCommand words command = IsAsked (plainly_wanted words) (workers_of words) command

-- the command for these words
abbrev pub IsCommand : List (List ℕ) → Command → Type 0
IsCommand words command = IsAsked (wanted words) (workers_of (command_words words)) command
