pub mod Stands
pub mod Codec
pub mod Maps
pub mod FieldCodecs
pub mod Rows
pub mod RoundTrip
pub mod WrittenBytes
