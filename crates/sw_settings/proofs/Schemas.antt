-- A schema is the list of the columns that it was made of.
use Rattle.std.proofs.Common.{◌≡◌, List, [], ◌∷◌, ◌++◌, Option, Some, None, Result, Ok, sym, ◌∙◌, append_assoc, append-nil}
use Rattle.sw_column.specs.declared.column.Column.{Column}
use Rattle.sw_column.specs.declared.column.ColumnFault.{ColumnFault}
use Rattle.sw_column.specs.Columns.{column_fault}
use Rattle.sw_call.specs.declared.column_texts.Refused.{Refused}
use Rattle.sw_call.specs.Columns.{joined, schema_with, schema_of}

joined_is : (s : List Column) (c : Column) (o : Option ColumnFault) (cs t : List Column) → (schema_with (Ok (s ++ c ∷ [])) cs ≡ Ok t → t ≡ (s ++ c ∷ []) ++ cs) → schema_with (joined s c o) cs ≡ Ok t → t ≡ s ++ c ∷ cs
unfolding schema_with
joined_is s c None cs t ih e = ih e ∙ append_assoc s (c ∷ []) cs
joined_is s c (Some fault) cs t ih e = absurd cc

-- what an Ok holds
result_same : (t s : List Column) → ◌≡◌ {A = Result (List Column) Refused} (Ok s) (Ok t) → t ≡ s
result_same t s e = cc

with_is : (s cs t : List Column) → schema_with (Ok s) cs ≡ Ok t → t ≡ s ++ cs
unfolding schema_with
with_is s [] t e = result_same t s e ∙ sym (append-nil s)
with_is s (c ∷ cs) t e = joined_is s c (column_fault s c.name c.kind c.size) cs t (with_is (s ++ c ∷ []) cs t) e

pub schema_is : (s cs : List Column) → Ok s ≡ schema_of cs → s ≡ cs
schema_is s cs e = with_is [] cs s (sym e)
