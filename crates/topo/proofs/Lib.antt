mod FieldNames
