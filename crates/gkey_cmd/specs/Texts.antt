-- The texts of the error stream, and those of help and version: this project's own.
use Rattle.std.specs.Prelude.{List, ℕ, ◌++◌, codes}
use Rattle.std.specs.Fmt.{decimal}
use Rattle.gk_base.specs.Faults.{read_text}
use Rattle.key_lang.specs.Faults.{key_fault_text}
use Rattle.proof_file.specs.Faults.{proof_fault_text}
use Rattle.gkey_cmd.specs.declared.file.File.{File}
use Rattle.gkey_cmd.specs.declared.file.File.TheVariants.{Graph, More, Keys, Proof}
use Rattle.gkey_cmd.specs.declared.ending.Asked.{Asked}
use Rattle.gkey_cmd.specs.declared.ending.Asked.TheVariants.{First, Second}
use Rattle.gkey_cmd.specs.declared.ending.Refusal.{Refusal}
use Rattle.gkey_cmd.specs.declared.ending.Refusal.TheVariants.{InGraph, InMore, InKeys, InProof, NoSuchEntity, MorePairsThan}

-- the usage text
abbrev pub usage : List ℕ
usage = codes "usage:\n  gkey match [--workers N] GRAPH KEYS\n  gkey prove [--workers N] GRAPH KEYS\n  gkey check GRAPH KEYS PROOF\n  gkey demo N\n  gkey convert PROOF\n  gkey grow [--workers N] GRAPH MORE KEYS\n  gkey merge [--workers N] GRAPH KEYS\n  gkey why [--workers N] GRAPH KEYS A B\n  gkey --help\n  gkey --version\n  gkey --large COMMAND ...\n"

-- the text of help, in lines of at most 80 characters
unfoldable pub help_text : List ℕ
help_text =
    codes "gkey: finds the entities of a graph that keys make the same, and proves it\n"
    ++ codes "\n"
    ++ codes "usage:\n"
    ++ codes "  gkey match [--workers N] GRAPH KEYS\n"
    ++ codes "      prints the classes of entities that are the same\n"
    ++ codes "  gkey prove [--workers N] GRAPH KEYS\n"
    ++ codes "      prints a proof of all that is the same\n"
    ++ codes "  gkey check GRAPH KEYS PROOF\n"
    ++ codes "      says that every step of a proof holds, or which does not and why\n"
    ++ codes "  gkey demo N\n"
    ++ codes "      matches a graph of N pairs of entities that it makes, and prints counts\n"
    ++ codes "  gkey convert PROOF\n"
    ++ codes "      prints a proof of either version in version 2\n"
    ++ codes "  gkey grow [--workers N] GRAPH MORE KEYS\n"
    ++ codes "      prints the classes of GRAPH and MORE together\n"
    ++ codes "  gkey merge [--workers N] GRAPH KEYS\n"
    ++ codes "      prints the graph with one entity in the place of each class\n"
    ++ codes "  gkey why [--workers N] GRAPH KEYS A B\n"
    ++ codes "      prints a proof that A and B are the same, or that they are not\n"
    ++ codes "  gkey --help\n"
    ++ codes "      prints this text\n"
    ++ codes "  gkey --version\n"
    ++ codes "      prints the version\n"
    ++ codes "  gkey --large COMMAND ...\n"
    ++ codes "      runs match, prove, check, convert, grow, merge or why with larger limits\n"
    ++ codes "\n"
    ++ codes "words:\n"
    ++ codes "  GRAPH  a graph in N-Triples\n"
    ++ codes "  MORE   a graph in N-Triples that is added to GRAPH\n"
    ++ codes "  KEYS   a key file\n"
    ++ codes "  PROOF  a proof file, as prove, why and convert print it\n"
    ++ codes "  A, B   entities of GRAPH, spelled as in N-Triples: '<urn:a>', '_:b'\n"
    ++ codes "  N      of --workers: how many workers search, 1 to 64, and 4 without it\n"
    ++ codes "         of demo: how many pairs of entities, 1 to 100000\n"
    ++ codes "\n"
    ++ codes "limits:\n"
    ++ codes "  GRAPH  536870912 bytes, 4194304 triples\n"
    ++ codes "  MORE   536870912 bytes, and as many triples as GRAPH leaves\n"
    ++ codes "  KEYS   1048576 bytes, 64 keys, each of 16 nodes and 32 triples\n"
    ++ codes "  PROOF  536870912 bytes\n"
    ++ codes "  pairs  67108864 candidate pairs of entities\n"
    ++ codes "\n"
    ++ codes "limits with --large:\n"
    ++ codes "  GRAPH  1099511627776 bytes, 1073741824 triples\n"
    ++ codes "  MORE   1099511627776 bytes, and as many triples as GRAPH leaves\n"
    ++ codes "  KEYS   as without it\n"
    ++ codes "  PROOF  1099511627776 bytes\n"
    ++ codes "  pairs  as many as there are\n"
    ++ codes "\n"
    ++ codes "status:\n"
    ++ codes "   0  the command did what it is for\n"
    ++ codes "   1  the proof is not accepted, or A and B are not the same\n"
    ++ codes "   2  an input is refused\n"
    ++ codes "   3  a file could not be read\n"
    ++ codes "   4  the output could not be written whole\n"
    ++ codes "   5  no memory was to be had\n"
    ++ codes "   6  the system did not give the program its words\n"
    ++ codes "  64  the words ask for no command\n"
    ++ codes "\n"
    ++ codes "The guide is docs/GUIDE.md, and the manual page docs/gkey.1.\n"

-- the text of the version
abbrev pub version_text : List ℕ
version_text = codes "gkey 0.1.0\n"

-- the texts of want of memory and of a failed write
abbrev pub out_of_memory : List ℕ
out_of_memory = codes "out of memory\n"

abbrev pub write_failed : List ℕ
write_failed = codes "output: write failed\n"

-- what a text calls a file
abbrev pub file_text : File → List ℕ
file_text Graph = codes "graph"
file_text More = codes "more"
file_text Keys = codes "keys"
file_text Proof = codes "proof"

-- the text of a file that could not be found or read
abbrev pub read_failed : File → List ℕ
read_failed file = file_text file ++ codes ": read failed\n"

-- the text of a refused line, with its number
abbrev pub line_text : File → ℕ → List ℕ → List ℕ
line_text file line fault = file_text file ++ codes ":" ++ decimal line ++ codes ": " ++ fault ++ codes "\n"

-- the text of more candidate pairs than a limit
abbrev pub pairs_text : ℕ → List ℕ
pairs_text limit = codes "pairs: more than " ++ decimal limit ++ codes "\n"

-- the text of a word that names no entity of the graph
abbrev pub no_entity_text : Asked → List ℕ
no_entity_text First = codes "first: no such entity\n"
no_entity_text Second = codes "second: no such entity\n"

-- the text of a refusal
abbrev pub refused_text : Refusal → List ℕ
refused_text (InGraph refusal) = line_text Graph refusal.line (read_text refusal.fault)
refused_text (InMore refusal) = line_text More refusal.line (read_text refusal.fault)
refused_text (InKeys refusal) = line_text Keys refusal.line (key_fault_text refusal.fault)
refused_text (InProof refusal) = line_text Proof refusal.line (proof_fault_text refusal.fault)
refused_text (NoSuchEntity asked) = no_entity_text asked
refused_text (MorePairsThan limit) = pairs_text limit
