-- The edit of one chunk and of one word (document 01, "Putting down a map", Modify), and a law for each way through the code.
use Rattle.std.specs.Prelude.{◌≡◌, ℕ, ◌-◌, ◌^◌}
use Rattle.std.proofs.Math.Path.{ap}
use Rattle.std.specs.Int.Bits.{bit_and, bit_or}
use Rattle.entry.specs.Word.{kind_of, edited}
use Rattle.entry.specs.declared.Kind.{Kind}
use Rattle.entry.specs.declared.Kind.TheVariants.{Table, Block, Page, Hole}
use Rattle.region.specs.declared.MemoryRegion.{MemoryRegion}
use Rattle.modify_entry.specs.declared.Edit.{Edit}

-- the edit of one chunk
abbrev pub chunk_edit : Edit → MemoryRegion → Edit
chunk_edit e c = record { region = c; set = e.set; clear = e.clear; live = e.live }

-- "touches valid blocks and pages only, never a table's word"
unfoldable pub of_kind : Kind → ℕ → ℕ → ℕ
of_kind Table new w = w
of_kind Block new w = new
of_kind Page new w = new
of_kind Hole new w = w

unfoldable pub edit_word : ℕ → Edit → ℕ → ℕ
edit_word level e w = of_kind (kind_of level w) (edited e.set e.clear w) w

-- ---- laws: one for each way through the code

module _ (level : ℕ) (e : Edit) (w : ℕ) {x : Kind} (is : x ≡ kind_of level w) where
  by_kind : of_kind x (edited e.set e.clear w) w ≡ edit_word level e w
  unfolding edit_word
  by_kind = ap (λ (k : Kind). of_kind k (edited e.set e.clear w) w) is

  pub edit_table_lem : x ≡ Table → w ≡ edit_word level e w
  unfolding of_kind
  edit_table_lem q = rw (← by_kind, q)

  pub edit_block : x ≡ Block → bit_and (bit_or w e.set) (2 ^ 64 - 1 - e.clear) ≡ edit_word level e w
  unfolding of_kind edited
  edit_block q = rw (← by_kind, q)

  pub edit_page : x ≡ Page → bit_and (bit_or w e.set) (2 ^ 64 - 1 - e.clear) ≡ edit_word level e w
  unfolding of_kind edited
  edit_page q = rw (← by_kind, q)

  pub edit_hole : x ≡ Hole → w ≡ edit_word level e w
  unfolding of_kind
  edit_hole q = rw (← by_kind, q)
