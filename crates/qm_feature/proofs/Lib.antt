mod Rings
mod Origins
